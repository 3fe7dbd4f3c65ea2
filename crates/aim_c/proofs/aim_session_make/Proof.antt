-- `aim_session_make` writes a new session to the room at the handle: a walk of its MIR.
use Rattle.std.proofs.Common.{[], ◌∷◌, ◌++◌, refl}
use Rattle.std.proofs.raw_atomic.Walks.{proved}
use base.Fraction.{full_share}
use base.Logic.{id⊢}
use base.Fml.{ftrue, fsep, fex}
use borrow.Table.OneValue.{part_in}
use mir.Syntax.{Ty}
use mir.Val.{vunit}
use prog.Wp.{WpFn}
use contract.Monad.{fact}
use contract.Running.{tables}
use types.Kit.{‵, raw, prop, ◌⊛◌, some, later, ◌$◌, ◌∵◌, !, qed, done, move, keep, drop, use1, use2, split, join, fsplit, fjoin, fpack, feq_i, pick, await, regoal, suffices, group}
use types.Run.{enter, assigns, of_opd, unit_lit, init, stop, no_more, and_then, returns}
use types.ByLocal.{alloc_all, pass_all, free_all, look_at, get, through, sets, lands_as}
use denote.Exit.{yes}
use denote.Laws.{Is, shows}
use denote.Memory.{lone}
use denote.RattleType.{owns}
use denote.RawPtr.{Ptr, RawPtr, block_ptr, lies_at, room_at, in_a_block, rawptr_vals, rawptr_Tells}
use denote.Signature.{plain, types_at}
use denote.Steps.{nothing, heard, peeks}
use denote.Triple.Call.{calls_at}
use denote.Triple.Clauses.{Lasts, lasts}
use denote.Triple.Spec.{triple_of}
use denote.Triple.Table.{framed}
use denote.Triple.Walked.{Stays, walk_of, stay_dropped, Goes-dropped, ends_at}
use Rattle.std.specs.contracts.alloc.Global.{the_row as Al}
use Rattle.std.proofs.alloc.Global.TheLaws as al
use Rattle.aim_text_session.specs.Sessions.{Standing}
use Rattle.aim_text_session.specs.contracts.sessions.TextSession.{the_row as R}
use Rattle.aim_text_session.proofs.sessions.TextSession.TheLaws.{the_row_laws}
use Rattle.aim_text_session.specs.contracts.sessions.TextSession.new as g
use Rattle.aim_text_session.proofs.sessions.TextSession.new.Met.{met}
use Rattle.aim_c.specs.Handle.{Fresh}
use Rattle.aim_c.specs.contracts.aim_session_make as f
use Rattle.aim_c.proofs.aim_session_make.Statement.{statement}
use Rattle.aim_c.proofs.aim_session_make.Code as code

abbrev stayed : Stays f.ended.signature.params f.ended.kept
stayed = (stay_dropped _ yes, (stay_dropped _ yes, tt))

pub aim_session_make_spec : {M : Type 1} → statement M
aim_session_make_spec 𝓤 𝓛 𝓜 𝓡 wired =
    let c = f.clauses 𝓛 𝓜.mem 𝓡.returns in let W = walk_of 𝓛 f.ended stayed c in let 𝓣 = tables 𝓤 𝓛.H 𝓜 𝓡 𝓡.env in let τ : Ty = lone R.mir in
    proved 𝓛 f.ended stayed c 𝓜 𝓡
    (Goes-dropped 𝓛 0 (plain (λ _. Al)) yes (λ κs x w. refl), (Goes-dropped 𝓛 0 (plain (λ _. RawPtr)) yes (λ κs x w. refl), tt))
    f.Key.name code.function (code.unfolded 𝓤 𝓛.H 𝓜 𝓡 wired)
    (λ κs. ((λ x. al.lowers.lowered x ∷ []), (rawptr_vals, tt))) (λ κs. (al.lowers.val_is, (rawptr_Tells, tt))) (λ κs qs bounds a m are.
    let alloc = a.0 in let av = al.lowers.lowered alloc ∷ [] in
    let y : Ptr → W.Ghost = λ p. ((κs, qs, bounds, (alloc, (p, tt)), (av, (rawptr_vals p, tt))), m) in
    qed 𝓛 ((‵ ftrue ⊛ ‵ (owns (types_at f.ended.signature.params κs) a (y a.1.0).0.4)) ∷ ‵ (room_at R a.1.0) ∷ []) ∵
    split ! $ move ! (1 ∷ []) $ fsplit ! $ move ! (1 ∷ []) $ fsplit ! $ drop ! $ move ! (3 ∷ []) $
    -- [the room; true; the allocator; true]
    in_a_block ! a.1.0 (λ p. room_at R p) (id⊢ 𝓤 _) (λ b o e.
    regoal ! (λ p. prop (WpFn 𝓤 𝓛.H 𝓣.C 𝓣.Λ code.function (av ++ (rawptr_vals p ++ [])) (W.post (y p)))) e refl $ keep ! (2 ∷ 0 ∷ []) $
    -- [the allocator; the room]
    enter ! _ _ _ _ _ $ alloc_all ! (λ l. pass_all ! refl (((al.the_row_laws.lawful 𝓛).typed alloc av are.0).0, ((tt, tt), tt)) $
    let G = triple_of 𝓛 g.signature (g.spec 𝓛 𝓜.mem 𝓡.returns) in
    let z : G.Ghost = ((tt, tt, tt, (alloc, tt), (av, tt)), tt) in
    nothing ! $ move ! (1 ∷ 0 ∷ []) $ join ! $ nothing ! $ join ! $ nothing ! $ move ! (1 ∷ 0 ∷ []) $ join ! $ use1 𝓛 (raw (G.pre z)) (id⊢ 𝓤 _) $
    calls_at ! (framed 𝓤 𝓛.H 𝓜 𝓣) G (met 𝓤 𝓛 𝓜 𝓡 (code.calls-aim_text_session::sessions::TextSession::new 𝓡.env wired)) z
    (and_then ! (get ! refl) (no_more !)) (λ v.
    use1 𝓛 (later (some (λ (d : Standing). (‵ ftrue ⊛ ‵ (R.own_val d (v ∷ []))) ⊛
    some (λ (ws : Lasts g.ended z.0.0 z.0.3). ‵ (lasts g.ended z.0.0 z.0.3 ws) ⊛ raw (fact 𝓤 (Fresh d)))))) (id⊢ 𝓤 _) $
    await ! tt $ pick ! (λ d. split ! $ split ! $ move ! (2 ∷ []) $ pick ! (λ ws. split ! $ drop ! $ heard ! _ (λ so.
    -- [true; what the session owns; the room]
    move ! (1 ∷ []) $ peeks ! R (Is R) (shows 𝓛 R) d (v ∷ []) (λ is. let good = ((the_row_laws.lawful 𝓛).typed d (v ∷ []) is).0 in
    lands_as ! refl refl good $
    sets ! (of_opd ! (get ! refl)) refl (tt, tt) $
    sets ! (of_opd ! (get ! refl)) refl good $
    assigns ! (of_opd ! (get ! refl)) (through ! refl (stop !)) (init ! 2 refl good) $
    sets ! (of_opd ! (unit_lit !)) refl (tt, tt) $
    returns ! (look_at ! 0 refl) $ free_all ! refl $
    move ! (2 ∷ 0 ∷ []) $ use2 𝓛 (‵ (lies_at R full_share (block_ptr b o) d)) (part_in 𝓛 R refl full_share d b o v) $
    nothing ! $ fpack ! (Fresh d) (λ _. ftrue) so $ move ! (1 ∷ 0 ∷ []) $ fjoin ! $
    fpack ! Standing (λ n. fsep (lies_at R full_share (block_ptr b o) n) (fex (Fresh n) (λ _. ftrue))) d $ keep ! (0 ∷ []) $
    -- [what it ensures]
    suffices ! _ (ends_at 𝓛 f.ended stayed c (y (block_ptr b o)) vunit tt (tt, (tt, tt)) (tt, (tt, tt))) $
    feq_i ! _ (vunit ∷ []) _ refl $ nothing ! $ nothing ! $ join ! $ nothing ! $ join ! $ nothing ! $ group ! 3 $ done !))))))))
