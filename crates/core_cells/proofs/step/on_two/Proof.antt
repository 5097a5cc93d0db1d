-- `on_two` lends the board to `slots`, runs the step on the two slots, and has the board back. Assumes `Logic`.
use Rattle.std.proofs.Common.{◌≡◌, ◌≢◌, ℕ, Some, IsSome, List, [], ◌∷◌, ◌++◌, refl, sym, ap, subst, ◌∙◌, w8, MutBor}
use Rattle.std.proofs.raw_atomic.Walks.{proved_at, leaves}
use lib.Dec.{T}
use base.Fraction.{full_share}
use base.Logic.{ent, id⊢, emp, wand, apply∗}
use base.Fml.{ftrue, flft, fdead, fres}
use base.Share.{left, right}
use mir.Syntax.{named, a_type, dcons, dnil}
use mir.MapTy.{inst_fn}
use mir.Val.{Val, vint, vstruct, of_list, has_ty, WT}
use prog.Wp.{WpFn}
use types.Part.{whole, sub}
use types.Tokens.{lft_new, lft_end}
use contract.BorrowLft.{◌⊑◌, ⊑_trans, meet_⊑_left, meet_⊑_right}
use contract.Monad.{fact, fact_i}
use contract.Running.{tables}
use types.Kit.{‵, raw, ◌⊛◌, some, later, ◌$◌, ◌∵◌, !, qed, by, move, keep, drop, use0, use1, use2, use3, split, join, fsplit, fjoin, fpick, feq_l, pick, await, rewrite}
use types.Run.{enter, of_opd, addr, stop, fld, no_more, and_then, returns}
use types.ByLocal.{alloc_all, pass_all, free_all, look_at, get, get_in, through, sets, lands_as}
use denote.Builtin.{u8}
use denote.Exit.{yes, no}
use denote.Follow.{follows_both}
use denote.Laws.{shows}
use denote.Lend.{lends_again, comes_back, LentAgain}
use denote.Param.{param, bounded, layout}
use denote.Param.Laws.{param_laws}
use denote.Param.Steps.{one_value}
use denote.RattleType.{flat}
use denote.Ref.{MutRef, mut_vals}
use denote.Signature.{plain}
use denote.Steps.{nothing, heard, only, peeks}
use denote.Struct.Tuple.{Tuple}
use denote.Triple.Call.{calls_at}
use denote.Triple.Clauses.{lasts}
use denote.Triple.Spec.{triple_of}
use denote.Triple.Table.{framed}
use denote.Triple.Walked.{Stays, walk_of, stay_dropped, stay_ref, Goes-dropped, Goes-ref}
use Rattle.core_cells.proofs.Glue.{both_said}
use Rattle.core_cells.proofs.CellLemmas.{two_slots_put, some_value}
use Rattle.core_cells.specs.Cells.{put_slot}
use Rattle.core_cells.specs.declared.cells.SlotCell.{SlotCell}
use Rattle.core_cells.specs.contracts.cells.SlotCell.{the_row as Row}
use Rattle.core_cells.specs.contracts.step.on_two as f
use Rattle.core_cells.proofs.step.on_two.Statement.{statement}
use Rattle.core_cells.proofs.step.on_two.Code as code
use Rattle.core_cells.specs.contracts.board.Board.slots as g
use Rattle.core_cells.specs.contracts.step.PairStep.run as h

pub on_two_spec : {M : Type 1} → statement M
on_two_spec 𝓤 𝓛 𝓜 𝓡 wired B S X LB LS LX G d P e met met_step =
    let 𝓣 = tables 𝓤 𝓛.H 𝓜 𝓡 𝓡.env in
    let c = f.clauses B S X G d P e 𝓛 𝓜.mem 𝓡.returns in let En = f.ended B S X G d P e in let R = param 0 B in let inst = bounded (a_type ∷ a_type ∷ a_type ∷ []) (B, (S, (X, tt))) (dcons d (dcons e dnil)) in
    let fn = inst_fn inst code.function in
    let hs : Stays En.signature.params En.kept = (stay_ref (0 ∷ []) tt (plain (λ _. R)), (stay_dropped (plain (λ _. u8)) yes, (stay_dropped (plain (λ _. u8)) yes, (stay_dropped (plain (λ _. param 1 S)) no, tt)))) in
    let W = walk_of 𝓛 En hs c in
    proved_at 𝓛 En hs c 𝓜 𝓡 (Goes-ref 𝓛 4 0 tt (plain (λ _. R)), (Goes-dropped 𝓛 4 (plain (λ _. u8)) yes (λ κs x w. refl), (Goes-dropped 𝓛 4 (plain (λ _. u8)) yes (λ κs x w. refl), (Goes-dropped 𝓛 4 (plain (λ _. param 1 S)) no (λ κs x w. refl), tt))))
    (f.Key.name inst) fn (code.unfolded 𝓤 𝓛.H 𝓜 𝓡 wired (B, (S, (X, tt))) d e) (λ y are.
    let A = 𝓛.A in let κs = y.0.0 in let qs = y.0.1 in let bounds = y.0.2 in let a = y.0.3 in
    let κ = κs.0 in let κ₁ = κs.1.0 in let κ₂ = κs.1.1.0 in let κ₃ = κs.1.1.1.0 in let q = qs.0 in let q₁ = qs.1.0 in let q₂ = qs.1.1.0 in let q₃ = qs.1.1.1.0 in
    let r = a.0 in let i = a.1.0 in let j = a.1.1.0 in let st = a.1.1.1.0 in
    let b = r.ref_ptr.0 in let o = r.ref_ptr.1 in let vs = mut_vals r in let vi = vint w8 i ∷ [] in let vj = vint w8 j ∷ [] in
    let At : List Val → List Val → List Val → List Val → W.Ghost = λ us is js ss. ((κs, qs, bounds, a, (us, (is, (js, (ss, tt))))), y.1) in
    let Goes : List Val → List Val → List Val → List Val → Type 1 = λ us is js ss. ent 𝓤 (W.pre (At us is js ss)) (WpFn 𝓤 𝓛.H 𝓣.C 𝓣.Λ fn (us ++ (is ++ (js ++ (ss ++ [])))) (W.post (At us is js ss))) in
    let F : SlotCell → SlotCell → B.Denot = λ x y. G.writes.slot (G.writes.slot r.now i x) j y in
    let Req : Type 0 = (i ≢ j) × IsSome ((G.cells r.now).slot i) × IsSome ((G.cells r.now).slot j) in
    let Ready : Type 0 = (x y : SlotCell) → (G.cells r.now).slot i ≡ Some x → (G.cells r.now).slot j ≡ Some y → P.can_run st x.register y.register in
    let walk : (w : Val) → T (has_ty (layout S) w) × WT w → Goes vs vi vj (w ∷ []) = λ w gw.
    qed 𝓛 (((‵ (flft κ q) ⊛ ‵ (flft κ₁ q₁) ⊛ ‵ (flft κ₂ q₂) ⊛ ‵ (flft κ₃ q₃) ⊛ ‵ ftrue) ⊛ ‵ ((MutRef (named 0) κ R).own_val r vs) ⊛ ‵ (u8.own_val i vi) ⊛ ‵ (u8.own_val j vj) ⊛ ‵ (S.own_val st (w ∷ [])) ⊛ ‵ ftrue)
    ∷ (raw (fact 𝓤 (κ₁ ⊑ B.lives)) ⊛ raw (fact 𝓤 (κ₂ ⊑ S.lives)) ⊛ raw (fact 𝓤 (κ₃ ⊑ X.lives)) ⊛ raw (fact 𝓤 Req) ⊛ raw (fact 𝓤 Ready)) ∷ []) ∵
    move ! (1 ∷ []) $ split ! $ heard ! _ (λ lives. split ! $ heard ! _ (λ step_lives. split ! $ heard ! _ (λ answer_lives. split ! $ heard ! _ (λ req. heard ! _ (λ ready.
    split ! $ split ! $ move ! (1 ∷ []) $ split ! $ move ! (3 ∷ []) $ split ! $ move ! (1 ∷ []) $ split ! $ move ! (1 ∷ []) $ split ! $ move ! (1 ∷ []) $ split ! $ keep ! (4 ∷ 7 ∷ 5 ∷ 3 ∷ 2 ∷ 6 ∷ 0 ∷ []) $
    -- [r; the tokens of κ and κ₁; i; j; the tokens of κ₂ and κ₃; the step]
    enter ! _ _ _ _ _ $ alloc_all ! (λ l. pass_all ! refl ((tt, tt), ((tt, record { fits = are.1.0.1 }), ((tt, record { fits = are.1.1.0.1 }), (gw, tt)))) $
    sets ! (addr ! (through ! refl (stop !))) refl (tt, tt) $
    move ! (1 ∷ []) $ use1 𝓛 (‵ (flft κ (left q)) ⊛ ‵ (flft κ (right q))) (𝓛.lfts.lft_split κ q) $ split ! $
    lft_new ! tt (λ α. let κ' = α ∷ κ in let t = right q in
    move ! (3 ∷ 1 ∷ []) $
    use2 𝓛 (later (some (λ (δ : ℕ). ‵ ((MutRef (named 0) κ' R).own_val (record r { ghost_name = δ }) vs) ⊛ ‵ (LentAgain R κ κ' (left q) r.ghost_name b o δ r.now))))
    (lends_again 𝓛 R (named 0) κ κ' (left q) r.ghost_name b o (named 0) r.now) $ await ! tt $ pick ! (λ δ. split ! $
    move ! (2 ∷ []) $ use1 𝓛 (‵ (flft (α ∷ []) t) ⊛ raw (wand 𝓤 (A.lft (α ∷ []) t) (A.lft (α ∷ []) full_share))) (𝓛.lfts.lft_carve α t) $ split ! $
    move ! (0 ∷ 4 ∷ []) $ use2 𝓛 (‵ (flft κ' t)) (𝓛.lfts.lft_meet (α ∷ []) κ t) $
    -- [the token of the loan; the way to α's whole token; the loan; what the lender keeps; the token of κ₁; i; j; the tokens of κ₂ and κ₃; the step]
    let fr = framed 𝓤 𝓛.H 𝓜 𝓣 in
    let Pair = MutRef (named 0) κ' Row ∷ MutRef (named 0) κ' Row ∷ [] in
    let C = triple_of 𝓛 (g.signature B) (g.spec B G d 𝓛 𝓜.mem 𝓡.returns) in
    let z : C.Ghost = (((κ', (κ₁, tt)), (t, (q₁, tt)), (⊑_trans κ' κ κ₁ (meet_⊑_right (α ∷ []) κ) bounds.0, tt), (record r { ghost_name = δ }, (i, (j, tt))), (vs, (vi, (vj, tt)))), tt) in
    use0 𝓛 (raw (fact 𝓤 Req)) (fact_i 𝓤 _ (emp 𝓤) req) $ use0 𝓛 (raw (fact 𝓤 (κ₁ ⊑ B.lives))) (fact_i 𝓤 _ (emp 𝓤) lives) $ join ! $
    nothing ! $ move ! (8 ∷ 0 ∷ []) $ join ! $ move ! (7 ∷ 0 ∷ []) $ join ! $ move ! (4 ∷ 0 ∷ []) $ join ! $
    nothing ! $ move ! (6 ∷ 0 ∷ []) $ join ! $ move ! (3 ∷ 0 ∷ []) $ join ! $ join ! $ use2 𝓛 (raw (C.pre z)) (id⊢ 𝓤 _) $
    calls_at ! fr C met.slots z (and_then ! (get ! refl) (and_then ! (get ! refl) (and_then ! (get ! refl) (no_more !)))) (λ v.
    use1 𝓛 (later (some (λ (p : MutBor SlotCell × MutBor SlotCell). ((‵ (flft κ' t) ⊛ ‵ (flft κ₁ q₁) ⊛ ‵ ftrue) ⊛ ‵ ((Tuple Pair).own_val p (v ∷ []))) ⊛
    some (λ (ws : Unit {0} × (Unit {0} × (Unit {0} × Unit {0}))). ‵ (lasts (g.ended B G d) z.0.0 z.0.3 ws) ⊛ ‵ (follows_both R Row Row δ p.0.ghost_name p.1.ghost_name F) ⊛
    raw (fact 𝓤 (((G.cells r.now).slot i ≡ Some p.0.now) × ((G.cells r.now).slot j ≡ Some p.1.now))))))) (id⊢ 𝓤 _) $
    await ! tt $ pick ! (λ p. split ! $ move ! (1 ∷ []) $ pick ! (λ ws. split ! $ drop ! $ split ! $ move ! (1 ∷ []) $ heard ! _ (λ got. move ! (1 ∷ []) $ split ! $ move ! (1 ∷ []) $
    -- [the pair; the tokens; how the loan follows it; the way to α's whole token; what the lender keeps; the tokens of κ₂ and κ₃; the step]
    fpick ! (λ vss. fsplit ! $ feq_l ! (λ is_pair. fsplit ! $
    peeks ! (MutRef (named 0) κ' Row) _ (shows 𝓛 (MutRef (named 0) κ' Row)) p.0 vss.0 (λ is₁. rewrite ! 0 (λ us. ‵ ((MutRef (named 0) κ' Row).own_val p.0 us)) is₁.0 refl $ move ! (1 ∷ []) $ fsplit ! $
    peeks ! (MutRef (named 0) κ' Row) _ (shows 𝓛 (MutRef (named 0) κ' Row)) p.1 vss.1.0 (λ is₂. rewrite ! 0 (λ us. ‵ ((MutRef (named 0) κ' Row).own_val p.1 us)) is₂.0 refl $
    lands_as ! (ap only is_pair ∙ ap (λ us. vstruct (of_list (flat Pair us))) (λ k. (is₁.0 k, (is₂.0 k, tt)))) refl (tt, (tt, (tt, tt))) $
    sets ! (of_opd ! (get_in ! (fld ! refl (stop !)) (sub ! 0 refl (whole !)))) refl (tt, tt) $
    sets ! (of_opd ! (get_in ! (fld ! refl (stop !)) (sub ! 1 refl (whole !)))) refl (tt, tt) $
    sets ! (of_opd ! (get ! refl)) refl gw $
    sets ! (addr ! (through ! refl (stop !))) refl (tt, tt) $ sets ! (addr ! (through ! refl (stop !))) refl (tt, tt) $
    let D = triple_of 𝓛 (h.signature S X) (h.spec S X P e 𝓛 𝓜.mem 𝓡.returns) in
    let z₂ : D.Ghost = (((κ', (κ', (κ₂, (κ₃, tt)))), (left t, (right t, (q₂, (q₃, tt)))), tt, (st, (p.0, (p.1, tt))), (w ∷ [], (mut_vals p.0, (mut_vals p.1, tt)))), tt) in
    move ! (3 ∷ []) $ split ! $ use1 𝓛 (‵ (flft κ' (left t)) ⊛ ‵ (flft κ' (right t))) (𝓛.lfts.lft_split κ' t) $ split ! $
    move ! (3 ∷ 4 ∷ []) $ join ! $ move ! (4 ∷ 0 ∷ []) $ join ! $ move ! (8 ∷ 0 ∷ []) $ join ! $ move ! (2 ∷ 7 ∷ []) $ join ! $ move ! (2 ∷ 0 ∷ []) $ join ! $ join ! $
    use0 𝓛 (raw (fact 𝓤 (P.can_run st p.0.now.register p.1.now.register))) (fact_i 𝓤 _ (emp 𝓤) (ready p.0.now p.1.now got.0 got.1)) $
    use0 𝓛 (raw (fact 𝓤 (κ₃ ⊑ X.lives))) (fact_i 𝓤 _ (emp 𝓤) answer_lives) $ join ! $ use0 𝓛 (raw (fact 𝓤 (κ₂ ⊑ S.lives))) (fact_i 𝓤 _ (emp 𝓤) step_lives) $ join ! $
    move ! (1 ∷ 0 ∷ []) $ use2 𝓛 (raw (D.pre z₂)) (id⊢ 𝓤 _) $
    calls_at ! fr D met_step.run z₂ (and_then ! (get ! refl) (and_then ! (get ! refl) (and_then ! (get ! refl) (no_more !)))) (λ v₂.
    use1 𝓛 (later (some (λ (u : X.Denot). ((‵ (flft κ' (left t)) ⊛ ‵ (flft κ' (right t)) ⊛ ‵ (flft κ₂ q₂) ⊛ ‵ (flft κ₃ q₃) ⊛ ‵ ftrue) ⊛ ‵ (X.own_val u (v₂ ∷ []))) ⊛
    some (λ (xs : Unit {0} × (SlotCell × (SlotCell × Unit {0}))). ‵ (lasts (h.ended S X P e) z₂.0.0 z₂.0.3 xs) ⊛ raw (fact 𝓤 (P.has_run st p.0.now.register p.1.now.register xs.1.0.register xs.1.1.0.register u)))))) (id⊢ 𝓤 _) $
    await ! tt $ pick ! (λ u. split ! $ split ! $ move ! (1 ∷ []) $
    peeks ! (param 2 X) _ (shows 𝓛 (param 2 X)) u (v₂ ∷ []) (λ is. lands_as ! refl refl (((param_laws 2 X LX).lawful 𝓛).typed u (v₂ ∷ []) is).0 $
    move ! (1 ∷ 2 ∷ 3 ∷ 4 ∷ 5 ∷ 6 ∷ []) $
    -- the tokens go back, and α ends
    split ! $ move ! (1 ∷ []) $ split ! $ move ! (2 ∷ 0 ∷ []) $ use2 𝓛 (‵ (flft κ' t)) (𝓛.lfts.lft_join κ' t) $
    use1 𝓛 (‵ (flft (α ∷ []) t) ⊛ ‵ (flft κ t)) (𝓛.lfts.lft_unmeet (α ∷ []) κ t) $ split ! $
    move ! (0 ∷ 6 ∷ []) $ use2 𝓛 (‵ (flft (α ∷ []) full_share)) (apply∗ 𝓤 (A.lft (α ∷ []) t) (A.lft (α ∷ []) full_share)) $ lft_end ! tt $
    use1 𝓛 (‵ (fdead κ')) (𝓛.lfts.dead-incl κ' (α ∷ []) (meet_⊑_left (α ∷ []) κ)) $
    -- [κ' is over; the rest of κ's token; the tokens of κ₂ and κ₃; the last values; the token of κ₁; how the loan follows; what the lender keeps; the answer]
    move ! (3 ∷ []) $ pick ! (λ xs. split ! $ move ! (1 ∷ []) $ heard ! _ (λ said. fsplit ! $ drop ! $ fsplit ! $ fsplit ! $ move ! (2 ∷ []) $ fsplit ! $ fsplit ! $
    move ! (3 ∷ 0 ∷ []) $ join ! $ move ! (0 ∷ 8 ∷ []) $
    use2 𝓛 (‵ (fres δ (R.coded.code (F xs.1.0 xs.1.1.0)))) (both_said 𝓛 R Row Row F δ p.0.ghost_name p.1.ghost_name xs.1.0 xs.1.1.0) $
    move ! (4 ∷ 8 ∷ 0 ∷ []) $
    use3 𝓛 (later (‵ ((MutRef (named 0) κ R).own_val (record r { now = F xs.1.0 xs.1.1.0 }) vs) ⊛ ‵ (flft κ (left q)))) (comes_back 𝓛 R (named 0) κ κ' (left q) r.ghost_name b o δ r.now (F xs.1.0 xs.1.1.0)) $ await ! tt $ split ! $
    move ! (1 ∷ 5 ∷ []) $ use2 𝓛 (‵ (flft κ q)) (𝓛.lfts.lft_join κ q) $
    returns ! (look_at ! 0 refl) $ free_all ! refl $ keep ! (0 ∷ 6 ∷ 1 ∷ 5 ∷ 7 ∷ []) $
    move ! (1 ∷ []) $ split ! $ move ! (0 ∷ 4 ∷ []) $ join ! $ move ! (2 ∷ 0 ∷ []) $ join ! $ keep ! (0 ∷ 2 ∷ 3 ∷ []) $
    nothing ! $ nothing ! $ fjoin ! $ nothing ! $ fjoin ! $ nothing ! $ fjoin ! $ move ! (2 ∷ 0 ∷ []) $ fjoin ! $
    use0 𝓛 (raw (fact 𝓤 ((x y : SlotCell) → (G.cells r.now).slot i ≡ Some x → (G.cells r.now).slot j ≡ Some y → (v : SlotCell) × (w : SlotCell) × P.has_run st x.register y.register v.register w.register u × (G.cells (F xs.1.0 xs.1.1.0) ≡ put_slot (put_slot (G.cells r.now) i v) j w))))
    (fact_i 𝓤 _ (emp 𝓤) (λ x y ex ey.
    let first : p.0.now ≡ x = some_value x p.0.now (sym got.0 ∙ ex) in let second : p.1.now ≡ y = some_value y p.1.now (sym got.1 ∙ ey) in (
      xs.1.0,
      xs.1.1.0,
      subst (λ (s : SlotCell × SlotCell). P.has_run st s.0.register s.1.register xs.1.0.register xs.1.1.0.register u) (λ k. (first k, second k)) said,
      two_slots_put G.cells G.writes.slot met.are_put.slot r.now i j xs.1.0 xs.1.1.0 req.1 req.2,
    ))) $
    move ! (2 ∷ 1 ∷ 3 ∷ 0 ∷ []) $
    by ! (leaves 𝓛 En hs c (At vs vi vj (w ∷ [])) v₂ u (F xs.1.0 xs.1.1.0, (tt, (tt, (tt, tt)))) (tt, (tt, (tt, (tt, tt)))))))))))))))))))))))))) in
    let vss = y.0.4 in
    subst (λ (us : List Val). Goes us vss.1.0 vss.1.1.0 vss.1.1.1.0) (sym are.0.0)
    (subst (λ (is : List Val). Goes vs is vss.1.1.0 vss.1.1.1.0) (sym are.1.0.0)
    (subst (λ (js : List Val). Goes vs vi js vss.1.1.1.0) (sym are.1.1.0.0)
    (one_value (layout S) (λ ss. Goes vs vi vj ss) vss.1.1.1.0 (((param_laws 1 S LS).lawful 𝓛).typed st vss.1.1.1.0 are.1.1.1.0) walk))))
