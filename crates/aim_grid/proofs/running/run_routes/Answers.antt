use Rattle.std.proofs.Common.{◌≡◌, List, ◌++◌, length, map, take, drop, sym, ap, ◌∙◌, subst, arith}
use Rattle.std.specs.List.{AllByRecursion, AllZip}
use Rattle.std.proofs.lemmas.Result.{IfOk-weaker}
use Rattle.aim_grid.specs.Models.{TravellerModel}
use Rattle.aim_grid.specs.Rode.{Managers}
use Rattle.aim_drive.proofs.Endings.{lent_back}
use Rattle.aim_grid_script.specs.declared.routes.PlannedLeg.{PlannedLeg}
use Rattle.aim_grid_script.specs.Fits.{AreLegs}
use Rattle.aim_grid.specs.Making.{AllKeep, legs_of_all, seat_of, vehicles_of}
use Rattle.aim_grid.specs.Closing.{AllGive, AreBack, AreLeft, IsSeated, all_gone}
use Rattle.aim_grid.proofs.Told.{enters_is, few_is, run_is}
use Rattle.aim_grid.proofs.Whole.{IsTravelled, all_back, all_seated, fit_here, ready_by, run_over, travelled_by}
use Rattle.aim_grid.proofs.running.run_routes.Goals as goal

pub travellers-requires : goal.travellers-requires
travellers-requires g c =
    let layouts = c.args.routes.layouts.items in
    let vehicles = c.args.routes.vehicles in
    let ms = c.in_ok-crossings.crossings.managers.items in
    let seats = c.in_ok-crossings.crossings.seats.items in
    let open_are = c.in_ok-crossings.ensures in
    let fit = fit_here layouts vehicles c.args.routes.legs.items ms seats c.requires.routes.legs open_are in
    record {
      ready = record {
        layouts = layouts;
        vehicles = vehicles;
        open_are = open_are;
        fit = subst (λ (ps : List PlannedLeg). AreLegs vehicles (length ms) ps) (sym c.deref.ensures.value) fit;
      };
    }

pub travel-requires-clause-ready : goal.travel-requires-clause-ready
travel-requires-clause-ready g c κs within =
    let ms = c.in_ok-crossings.crossings.managers.items in
    let seats = c.in_ok-crossings.crossings.seats.items in
    let ts = c.in_ok-travellers.travellers.items in
    ready_by c.args.routes.layouts.items c.args.routes.vehicles c.args.routes.legs.items c.deref.result.now ms c.deref-2.result.now seats ts c.deref_mut.result.now
    c.requires.routes.legs c.in_ok-crossings.ensures c.deref.ensures.value c.in_ok-travellers.ensures.travellers (c.deref-2.ensures.value ∙ c.travellers.ensures.managers) c.deref_mut.ensures.value

pub take_back-requires : goal.take_back-requires
take_back-requires g c =
    let layouts = c.args.routes.layouts.items in
    let vehicles = c.args.routes.vehicles in
    let until = c.args.routes.until in
    let legs = c.args.routes.legs.items in
    let ms = c.in_ok-crossings.crossings.managers.items in
    let seats = c.in_ok-crossings.crossings.seats.items in
    let ts = c.in_ok-travellers.travellers.items in
    let us = c.travel.new.travellers in
    let taken = c.travellers.new.self.seats.items in
    let same : length c.travel.new.travellers ≡ length c.deref_mut.result.now = c.travel.ensures.len in
    let many : length c.in_ok-travellers.travellers.items ≡ length c.deref_mut.result.now = ap (λ (l : List TravellerModel). length l) (sym c.deref_mut.ensures.value) in
    let whole : take c.in_ok-travellers.travellers.len (c.travel.new.travellers ++ drop (length c.travel.new.travellers) c.in_ok-travellers.travellers.items) ≡ c.travel.new.travellers =
    lent_back c.in_ok-travellers.travellers.len c.travel.new.travellers c.in_ok-travellers.travellers.items (same ∙ c.deref_mut.ensures.len) (omega arith) in
    let r : IsTravelled c.args.routes.layouts.items c.args.routes.vehicles c.args.routes.until c.args.routes.legs.items c.in_ok-crossings.crossings.managers.items c.in_ok-crossings.crossings.seats.items c.in_ok-travellers.travellers.items c.travel.new.travellers =
    travelled_by layouts vehicles until legs c.deref.result.now ms c.deref-2.result.now seats ts c.deref_mut.result.now us c.deref-3.result.now
    c.requires.routes.legs c.in_ok-crossings.ensures c.deref.ensures.value c.in_ok-travellers.ensures.travellers (c.deref-2.ensures.value ∙ c.travellers.ensures.managers) c.deref_mut.ensures.value
    c.travel.ensures (c.deref-3.ensures.value ∙ whole) (c.lack_memory.ensures c.if-lack_memory.false) in
    let keeps = subst (λ (ps : List PlannedLeg). AllKeep (map seat_of (legs_of_all ps (vehicles_of ts))) seats taken) c.deref.ensures.value c.in_ok-travellers.ensures.seats in
    record { seated = subst (λ (l : List TravellerModel). AllByRecursion (IsSeated taken) (all_gone l)) (sym whole) (all_seated layouts vehicles until legs ms seats ts us r taken keeps) }

pub close-requires : goal.close-requires
close-requires g c =
    let layouts = c.args.routes.layouts.items in
    let vehicles = c.args.routes.vehicles in
    let until = c.args.routes.until in
    let legs = c.args.routes.legs.items in
    let ms = c.in_ok-crossings.crossings.managers.items in
    let seats = c.in_ok-crossings.crossings.seats.items in
    let ts = c.in_ok-travellers.travellers.items in
    let us = c.travel.new.travellers in
    let taken = c.travellers.new.self.seats.items in
    let same : length c.travel.new.travellers ≡ length c.deref_mut.result.now = c.travel.ensures.len in
    let many : length c.in_ok-travellers.travellers.items ≡ length c.deref_mut.result.now = ap (λ (l : List TravellerModel). length l) (sym c.deref_mut.ensures.value) in
    let whole : take c.in_ok-travellers.travellers.len (c.travel.new.travellers ++ drop (length c.travel.new.travellers) c.in_ok-travellers.travellers.items) ≡ c.travel.new.travellers =
    lent_back c.in_ok-travellers.travellers.len c.travel.new.travellers c.in_ok-travellers.travellers.items (same ∙ c.deref_mut.ensures.len) (omega arith) in
    let r : IsTravelled c.args.routes.layouts.items c.args.routes.vehicles c.args.routes.until c.args.routes.legs.items c.in_ok-crossings.crossings.managers.items c.in_ok-crossings.crossings.seats.items c.in_ok-travellers.travellers.items c.travel.new.travellers =
    travelled_by layouts vehicles until legs c.deref.result.now ms c.deref-2.result.now seats ts c.deref_mut.result.now us c.deref-3.result.now
    c.requires.routes.legs c.in_ok-crossings.ensures c.deref.ensures.value c.in_ok-travellers.ensures.travellers (c.deref-2.ensures.value ∙ c.travellers.ensures.managers) c.deref_mut.ensures.value
    c.travel.ensures (c.deref-3.ensures.value ∙ whole) (c.lack_memory.ensures c.if-lack_memory.false) in
    let keeps = subst (λ (ps : List PlannedLeg). AllKeep (map seat_of (legs_of_all ps (vehicles_of ts))) seats taken) c.deref.ensures.value c.in_ok-travellers.ensures.seats in
    let back = c.take_back.new.self.seats.items in
    let managers = c.take_back.ensures.managers ∙ c.travellers.ensures.managers in
    let gives = subst (λ (l : List TravellerModel). AllGive (all_gone l) taken back) whole c.in_ok-take_back.ensures.seats in
    record { back = subst (λ (k : Managers). AllZip AreBack k back) (sym managers) (all_back layouts vehicles until legs ms seats ts us r taken keeps back gives) }

pub returns-clause-run : goal.returns-clause-run
returns-clause-run g c =
    let layouts = c.args.routes.layouts.items in
    let vehicles = c.args.routes.vehicles in
    let until = c.args.routes.until in
    let legs = c.args.routes.legs.items in
    let ms = c.in_ok-crossings.crossings.managers.items in
    let seats = c.in_ok-crossings.crossings.seats.items in
    let ts = c.in_ok-travellers.travellers.items in
    let us = c.travel.new.travellers in
    let taken = c.travellers.new.self.seats.items in
    let same : length c.travel.new.travellers ≡ length c.deref_mut.result.now = c.travel.ensures.len in
    let many : length c.in_ok-travellers.travellers.items ≡ length c.deref_mut.result.now = ap (λ (l : List TravellerModel). length l) (sym c.deref_mut.ensures.value) in
    let whole : take c.in_ok-travellers.travellers.len (c.travel.new.travellers ++ drop (length c.travel.new.travellers) c.in_ok-travellers.travellers.items) ≡ c.travel.new.travellers =
    lent_back c.in_ok-travellers.travellers.len c.travel.new.travellers c.in_ok-travellers.travellers.items (same ∙ c.deref_mut.ensures.len) (omega arith) in
    let r : IsTravelled c.args.routes.layouts.items c.args.routes.vehicles c.args.routes.until c.args.routes.legs.items c.in_ok-crossings.crossings.managers.items c.in_ok-crossings.crossings.seats.items c.in_ok-travellers.travellers.items c.travel.new.travellers =
    travelled_by layouts vehicles until legs c.deref.result.now ms c.deref-2.result.now seats ts c.deref_mut.result.now us c.deref-3.result.now
    c.requires.routes.legs c.in_ok-crossings.ensures c.deref.ensures.value c.in_ok-travellers.ensures.travellers (c.deref-2.ensures.value ∙ c.travellers.ensures.managers) c.deref_mut.ensures.value
    c.travel.ensures (c.deref-3.ensures.value ∙ whole) (c.lack_memory.ensures c.if-lack_memory.false) in
    let keeps = subst (λ (ps : List PlannedLeg). AllKeep (map seat_of (legs_of_all ps (vehicles_of ts))) seats taken) c.deref.ensures.value c.in_ok-travellers.ensures.seats in
    let back = c.take_back.new.self.seats.items in
    let managers = c.take_back.ensures.managers ∙ c.travellers.ensures.managers in
    let gives = subst (λ (l : List TravellerModel). AllGive (all_gone l) taken back) whole c.in_ok-take_back.ensures.seats in
    IfOk-weaker c.close.result (λ v. AreLeft c.take_back.new.self.managers.items c.take_back.new.self.seats.items v.items) _
    (λ v left. run_is layouts vehicles until legs ms us v.items
    (run_over layouts vehicles until legs ms seats ts us r taken keeps back gives v.items (subst (λ (k : Managers). AreLeft k back v.items) managers left))) c.close.ensures

pub returns-clause-few : goal.returns-clause-few
returns-clause-few g c =
    let layouts = c.args.routes.layouts.items in
    let vehicles = c.args.routes.vehicles in
    let until = c.args.routes.until in
    let legs = c.args.routes.legs.items in
    let ms = c.in_ok-crossings.crossings.managers.items in
    let seats = c.in_ok-crossings.crossings.seats.items in
    let ts = c.in_ok-travellers.travellers.items in
    let us = c.travel.new.travellers in
    let taken = c.travellers.new.self.seats.items in
    let same : length c.travel.new.travellers ≡ length c.deref_mut.result.now = c.travel.ensures.len in
    let many : length c.in_ok-travellers.travellers.items ≡ length c.deref_mut.result.now = ap (λ (l : List TravellerModel). length l) (sym c.deref_mut.ensures.value) in
    let whole : take c.in_ok-travellers.travellers.len (c.travel.new.travellers ++ drop (length c.travel.new.travellers) c.in_ok-travellers.travellers.items) ≡ c.travel.new.travellers =
    lent_back c.in_ok-travellers.travellers.len c.travel.new.travellers c.in_ok-travellers.travellers.items (same ∙ c.deref_mut.ensures.len) (omega arith) in
    let r : IsTravelled c.args.routes.layouts.items c.args.routes.vehicles c.args.routes.until c.args.routes.legs.items c.in_ok-crossings.crossings.managers.items c.in_ok-crossings.crossings.seats.items c.in_ok-travellers.travellers.items c.travel.new.travellers =
    travelled_by layouts vehicles until legs c.deref.result.now ms c.deref-2.result.now seats ts c.deref_mut.result.now us c.deref-3.result.now
    c.requires.routes.legs c.in_ok-crossings.ensures c.deref.ensures.value c.in_ok-travellers.ensures.travellers (c.deref-2.ensures.value ∙ c.travellers.ensures.managers) c.deref_mut.ensures.value
    c.travel.ensures (c.deref-3.ensures.value ∙ whole) (c.lack_memory.ensures c.if-lack_memory.false) in
    let keeps = subst (λ (ps : List PlannedLeg). AllKeep (map seat_of (legs_of_all ps (vehicles_of ts))) seats taken) c.deref.ensures.value c.in_ok-travellers.ensures.seats in
    let back = c.take_back.new.self.seats.items in
    let managers = c.take_back.ensures.managers ∙ c.travellers.ensures.managers in
    let gives = subst (λ (l : List TravellerModel). AllGive (all_gone l) taken back) whole c.in_ok-take_back.ensures.seats in
    IfOk-weaker c.close.result (λ v. AreLeft c.take_back.new.self.managers.items c.take_back.new.self.seats.items v.items) _
    (λ v left. few_is layouts vehicles until legs ms us v.items
    (run_over layouts vehicles until legs ms seats ts us r taken keeps back gives v.items (subst (λ (k : Managers). AreLeft k back v.items) managers left))) c.close.ensures

pub returns-clause-enters : goal.returns-clause-enters
returns-clause-enters g c =
    let layouts = c.args.routes.layouts.items in
    let vehicles = c.args.routes.vehicles in
    let until = c.args.routes.until in
    let legs = c.args.routes.legs.items in
    let ms = c.in_ok-crossings.crossings.managers.items in
    let seats = c.in_ok-crossings.crossings.seats.items in
    let ts = c.in_ok-travellers.travellers.items in
    let us = c.travel.new.travellers in
    let taken = c.travellers.new.self.seats.items in
    let same : length c.travel.new.travellers ≡ length c.deref_mut.result.now = c.travel.ensures.len in
    let many : length c.in_ok-travellers.travellers.items ≡ length c.deref_mut.result.now = ap (λ (l : List TravellerModel). length l) (sym c.deref_mut.ensures.value) in
    let whole : take c.in_ok-travellers.travellers.len (c.travel.new.travellers ++ drop (length c.travel.new.travellers) c.in_ok-travellers.travellers.items) ≡ c.travel.new.travellers =
    lent_back c.in_ok-travellers.travellers.len c.travel.new.travellers c.in_ok-travellers.travellers.items (same ∙ c.deref_mut.ensures.len) (omega arith) in
    let r : IsTravelled c.args.routes.layouts.items c.args.routes.vehicles c.args.routes.until c.args.routes.legs.items c.in_ok-crossings.crossings.managers.items c.in_ok-crossings.crossings.seats.items c.in_ok-travellers.travellers.items c.travel.new.travellers =
    travelled_by layouts vehicles until legs c.deref.result.now ms c.deref-2.result.now seats ts c.deref_mut.result.now us c.deref-3.result.now
    c.requires.routes.legs c.in_ok-crossings.ensures c.deref.ensures.value c.in_ok-travellers.ensures.travellers (c.deref-2.ensures.value ∙ c.travellers.ensures.managers) c.deref_mut.ensures.value
    c.travel.ensures (c.deref-3.ensures.value ∙ whole) (c.lack_memory.ensures c.if-lack_memory.false) in
    let keeps = subst (λ (ps : List PlannedLeg). AllKeep (map seat_of (legs_of_all ps (vehicles_of ts))) seats taken) c.deref.ensures.value c.in_ok-travellers.ensures.seats in
    let back = c.take_back.new.self.seats.items in
    let managers = c.take_back.ensures.managers ∙ c.travellers.ensures.managers in
    let gives = subst (λ (l : List TravellerModel). AllGive (all_gone l) taken back) whole c.in_ok-take_back.ensures.seats in
    IfOk-weaker c.close.result (λ v. AreLeft c.take_back.new.self.managers.items c.take_back.new.self.seats.items v.items) _
    (λ v left. enters_is layouts vehicles until legs ms us v.items
    (run_over layouts vehicles until legs ms seats ts us r taken keeps back gives v.items (subst (λ (k : Managers). AreLeft k back v.items) managers left)) c.requires.routes.few_steps) c.close.ensures
