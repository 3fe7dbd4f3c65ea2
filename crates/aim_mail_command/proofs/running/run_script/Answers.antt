use Rattle.std.proofs.Common.{◌≡◌, ◌≤◌, ◌<◌, List, length, sym, subst, arith}
use Rattle.std.specs.Prelude.{All}
use Rattle.aim_messages.specs.declared.entries.TheConstants.{LATEST_MOMENT}
use Rattle.aim_mail_script.specs.declared.scripts.Event.{Event}
use Rattle.aim_mail_command.specs.Calling.{AllByPlace, HasMade, Works}
use Rattle.aim_mail_command.proofs.Journals.{moments_of}
use Rattle.aim_mail_command.proofs.Staffing.{some_size, staff_own, staff_run, staff_works}
use Rattle.aim_mail_command.proofs.running.run_script.Goals as goal

pub beside-requires-clause-size : goal.beside-requires-clause-size
beside-requires-clause-size g c κs within =
    let count : length c.in_ok-staff.staff.callers.items ≡ c.args.script.now.vehicles = (let staff = c.in_ok-staff.ensures.callers in staff.count) in
    let some : 0 < c.args.script.now.vehicles = (let fit = c.requires.script in fit.some_vehicles) in
    let len : c.len.result ≡ length c.in_ok-staff.staff.callers.items = omega arith in
    some_size c.len.result c.args.workers c.div_ceil-size.result (omega (arith, len, count, some)) c.requires.workers c.div_ceil-size.ensures

pub beside-requires-clause-moments : goal.beside-requires-clause-moments
beside-requires-clause-moments g c κs within =
    subst (λ (es : List Event). All (λ e. e.moment ≤ LATEST_MOMENT) es) (sym c.deref.ensures.value) (moments_of c.args.script.now c.requires.script)

pub beside-requires-clause-works : goal.beside-requires-clause-works
beside-requires-clause-works g c κs within =
    let s = c.args.script.now in
    let staff = c.in_ok-staff.staff in
    subst (λ (es : List Event). All (Works s.layout es) staff.callers.items) (sym c.deref.ensures.value) (staff_works s staff.server staff.callers.items c.in_ok-staff.ensures.callers)

pub settle-requires : goal.settle-requires
settle-requires g c =
    let s = c.args.script.now in
    let staff = c.in_ok-staff.staff in
    let b = c.in_ok-both.both in
    record {
      own = staff_own s staff.server staff.callers.items c.in_ok-staff.ensures.callers b.0 b.1.items c.in_ok-both.ensures.served
          (subst (λ (es : List Event). AllByPlace (HasMade es) staff.callers.items b.1.items) c.deref.ensures.value c.in_ok-both.ensures.ended);
    }

pub returns : goal.returns
returns g c =
    let s = c.args.script.now in
    let staff = c.in_ok-staff.staff in
    let b = c.in_ok-both.both in
    let e = c.settle.ensures in
    staff_run s staff.server staff.callers.items c.in_ok-staff.ensures.callers b.0 b.1.items c.settle.result.items c.requires.script c.in_ok-both.ensures.served
    (subst (λ (es : List Event). AllByPlace (HasMade es) staff.callers.items b.1.items) c.deref.ensures.value c.in_ok-both.ensures.ended) e.legal e.operator e.clients
