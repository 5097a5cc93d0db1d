-- `two_cells` lends two seats, and lends the cell of each on. Assumes `Logic`.
use Rattle.std.proofs.Common.{◌≡◌, ◌≢◌, List, [], ◌∷◌, refl, ap, ◌∙◌, w8, MutBor, IsSome}
use Rattle.std.proofs.raw_atomic.Walks.{proved, leaves}
use Rattle.std.specs.Prelude.{slice_get, slice_set, Some}
use base.Logic.{id⊢, emp}
use base.Fml.{ftrue, flft}
use mir.Syntax.{named}
use mir.Val.{Val, vint, vptr, vstruct, vcons, vnil, of_list}
use types.Part.{whole, sub, agg}
use contract.Monad.{fact, fact_i}
use contract.Running.{tables}
use types.Kit.{‵, raw, ◌⊛◌, some, later, ◌$◌, ◌∵◌, !, qed, by, move, drop, use0, use1, use2, use3, split, join, fsplit, fjoin, fpick, fpack, feq_i, feq_l, pick, await, rewrite}
use types.Run.{enter, of_opd, addr, stop, fld, hop, from, no_more, and_then, returns}
use types.ByLocal.{alloc_all, pass_all, free_all, look_at, look_in_at, get, get_in, through, sets, lands_as}
use denote.Array.{Array}
use denote.Builtin.{u8}
use denote.Exit.{yes, no}
use denote.Follow.{follows_both}
use denote.Laws.{shows}
use denote.Plain.{uint_vals, uint_Tells}
use denote.RattleType.{Valss, flat}
use denote.Ref.{MutRef, mut_vals}
use denote.Slice.{MutSlice, mut_slice_vals, mut_slice_Tells}
use denote.Signature.{plain, mut_slice_of}
use denote.Steps.{nothing, heard, only, peeks}
use denote.Struct.Declared.{shape}
use denote.Struct.Struct.{within}
use denote.Struct.Tuple.{Tuple, tuple_type}
use denote.Triple.Call.{calls_at}
use denote.Triple.Clauses.{lasts}
use denote.Triple.Spec.{triple_of}
use denote.Triple.Table.{framed}
use denote.Triple.Walked.{Stays, stay_dropped, Goes-dropped, Goes-spent_slice}
use Rattle.core_cells.specs.declared.cells.SlotCell.{SlotCell}
use Rattle.core_cells.specs.contracts.cells.SlotCell.{the_row as C}
use Rattle.held_board.proofs.Glue.{both_each}
use Rattle.held_board.proofs.SeatLemmas.{two_set_at, seat_has, cell_at}
use Rattle.held_board.specs.SeatLends.{seat_with}
use Rattle.held_board.specs.Seats.{cell_of, place}
use Rattle.held_board.specs.HeldLends.{LendsTwoSeats, LendsSlot}
use Rattle.held_board.specs.declared.seat.Seat.{Seat}
use Rattle.held_board.specs.HeldLends.{slot_seat_row as S}
use Rattle.held_board.specs.contracts.board.two_cells as f
use Rattle.held_board.proofs.board.two_cells.Statement.{statement}
use Rattle.held_board.proofs.board.two_cells.Code as code
use Rattle.held_board.specs.contracts.board.two_seats as g
use Rattle.held_board.proofs.board.two_seats.Met as g_thm
use Rattle.held_board.specs.contracts.board.slot_in as h
use Rattle.held_board.proofs.board.slot_in.Met as h_thm

abbrev stayed : Stays f.ended.signature.params f.ended.kept
stayed = (stay_dropped (mut_slice_of (0 ∷ []) tt (plain (λ _. S))) no, (stay_dropped (plain (λ _. u8)) yes, (stay_dropped (plain (λ _. u8)) yes, tt)))

pub two_cells_spec : {M : Type 1} → statement M
two_cells_spec 𝓤 𝓛 𝓜 𝓡 wired =
    let c = f.clauses 𝓛 𝓜.mem 𝓡.returns in
    proved 𝓛 f.ended stayed c 𝓜 𝓡 (Goes-spent_slice 𝓛 1 (0 ∷ []) tt (plain (λ _. S)), (Goes-dropped 𝓛 1 (plain (λ _. u8)) yes (λ κs x w. refl), (Goes-dropped 𝓛 1 (plain (λ _. u8)) yes (λ κs x w. refl), tt)))
    f.Key.name code.function (code.unfolded 𝓤 𝓛.H 𝓜 𝓡 wired)
    (λ κs. (mut_slice_vals, (uint_vals w8, (uint_vals w8, tt)))) (λ κs. (mut_slice_Tells (named 0) κs.0 S, (uint_Tells w8, (uint_Tells w8, tt)))) (λ κs qs bounds a _ are.
    let κ = κs.0 in let q = qs.0 in let s = a.0 in let i = a.1.0 in let j = a.1.1.0 in
    let vi = vint w8 i ∷ [] in let vj = vint w8 j ∷ [] in let fs = are.0.0.1.0 in
    let Pair = MutRef (named 0) κ S ∷ MutRef (named 0) κ S ∷ [] in let Parts = MutRef (named 0) κ C ∷ MutRef (named 0) κ C ∷ [] in
    let fr = framed 𝓤 𝓛.H 𝓜 (tables 𝓤 𝓛.H 𝓜 𝓡 𝓡.env) in
    let G = triple_of 𝓛 g.signature (g.spec 𝓛 𝓜.mem 𝓡.returns) in let H = triple_of 𝓛 h.signature (h.spec 𝓛 𝓜.mem 𝓡.returns) in
    let z : G.Ghost = (((κ, tt), (q, tt), tt, (s, (i, (j, tt))), (mut_slice_vals s, (vi, (vj, tt)))), tt) in
    qed 𝓛 (((‵ (flft κ q) ⊛ ‵ ftrue) ⊛ ‵ ((MutSlice (named 0) κ S).own_val s (mut_slice_vals s)) ⊛ ‵ (u8.own_val i vi) ⊛ ‵ (u8.own_val j vj) ⊛ ‵ ftrue) ∷ raw (fact 𝓤 ((i ≢ j) × IsSome (cell_of s.now i) × IsSome (cell_of s.now j))) ∷ []) ∵
    move ! (1 ∷ []) $ heard ! _ (λ req. enter ! _ _ _ _ _ $
    alloc_all ! (λ l. pass_all ! refl ((tt, (tt, (record { fits = fs }, tt))), ((tt, record { fits = are.1.0.1 }), ((tt, record { fits = are.1.1.0.1 }), tt))) $
    sets ! (addr ! (from ! (fld ! refl (hop ! (look_in_at ! 1 (sub ! 0 refl (whole !))) (stop !))))) refl (tt, tt) $
    sets ! (agg ! (and_then ! (get ! refl) (and_then ! (get_in ! (fld ! refl (stop !)) (sub ! 1 refl (whole !))) (no_more !)))) refl (tt, (tt, (record { fits = fs }, tt))) $
    use0 𝓛 (raw (fact 𝓤 ((i ≢ j) × IsSome (cell_of s.now i) × IsSome (cell_of s.now j)))) (fact_i 𝓤 _ (emp 𝓤) req) $ move ! (1 ∷ 0 ∷ []) $ use2 𝓛 (raw (G.pre z)) (id⊢ 𝓤 _) $
    calls_at ! fr G (g_thm.met 𝓤 𝓛 𝓜 𝓡 (code.calls-held_board::board::two_seats 𝓡.env wired)) z (and_then ! (get ! refl) (and_then ! (get ! refl) (and_then ! (get ! refl) (no_more !)))) (λ v.
    use1 𝓛 (later (some (λ (p : MutBor (Seat SlotCell) × MutBor (Seat SlotCell)). ((‵ (flft κ q) ⊛ ‵ ftrue) ⊛ ‵ ((Tuple Pair).own_val p (v ∷ []))) ⊛
    some (λ (ws : Unit {0} × (Unit {0} × (Unit {0} × Unit {0}))). ‵ (lasts g.ended z.0.0 z.0.3 ws) ⊛ ‵ (LendsTwoSeats s (place s.now i) (place s.now j) p) ⊛ raw (fact 𝓤 ((slice_get s.now (place s.now i) ≡ Some p.0.now) × (slice_get s.now (place s.now j) ≡ Some p.1.now))))))) (id⊢ 𝓤 _) $
    await ! tt $ pick ! (λ p. split ! $ move ! (1 ∷ []) $ pick ! (λ ws. split ! $ drop ! $ split ! $ move ! (1 ∷ []) $ heard ! _ (λ got. move ! (1 ∷ []) $ split ! $ move ! (1 ∷ []) $
    -- [the pair; the token; how the slice follows it]
    fpick ! (λ vss. fsplit ! $ feq_l ! (λ is_pair. fsplit ! $
    peeks ! (MutRef (named 0) κ S) _ (shows 𝓛 (MutRef (named 0) κ S)) p.0 vss.0 (λ is₁. rewrite ! 0 (λ us. ‵ ((MutRef (named 0) κ S).own_val p.0 us)) is₁.0 refl $ move ! (1 ∷ []) $ fsplit ! $
    peeks ! (MutRef (named 0) κ S) _ (shows 𝓛 (MutRef (named 0) κ S)) p.1 vss.1.0 (λ is₂. rewrite ! 0 (λ us. ‵ ((MutRef (named 0) κ S).own_val p.1 us)) is₂.0 refl $
    lands_as ! (ap only is_pair ∙ ap (λ us. vstruct (of_list (flat Pair us))) (λ k. (is₁.0 k, (is₂.0 k, tt)))) refl (tt, (tt, (tt, tt))) $
    sets ! (of_opd ! (get_in ! (fld ! refl (stop !)) (sub ! 0 refl (whole !)))) refl (tt, tt) $
    sets ! (of_opd ! (get_in ! (fld ! refl (stop !)) (sub ! 1 refl (whole !)))) refl (tt, tt) $
    sets ! (addr ! (through ! refl (stop !))) refl (tt, tt) $
    -- [the second seat; nothing; the first; the token; how the slice follows them]
    let z₁ : H.Ghost = (((κ, tt), (q, tt), tt, (p.0, tt), (mut_vals p.0, tt)), tt) in let z₂ : H.Ghost = (((κ, tt), (q, tt), tt, (p.1, tt), (mut_vals p.1, tt)), tt) in
    move ! (2 ∷ 1 ∷ []) $ join ! $ move ! (2 ∷ 0 ∷ []) $ join ! $
    use0 𝓛 (raw (fact 𝓤 (IsSome p.0.now.cell))) (fact_i 𝓤 _ (emp 𝓤) (seat_has s.now i p.0.now req.1 got.0)) $ move ! (1 ∷ 0 ∷ []) $ use2 𝓛 (raw (H.pre z₁)) (id⊢ 𝓤 _) $
    calls_at ! fr H (h_thm.met 𝓤 𝓛 𝓜 𝓡 (code.calls-held_board::board::slot_in 𝓡.env wired)) z₁ (and_then ! (get ! refl) (no_more !)) (λ v₁.
    use1 𝓛 (later (some (λ (m : MutBor SlotCell). ((‵ (flft κ q) ⊛ ‵ ftrue) ⊛ ‵ ((MutRef (named 0) κ C).own_val m (v₁ ∷ []))) ⊛
    some (λ (ws : Unit {0} × Unit {0}). ‵ (lasts h.ended z₁.0.0 z₁.0.3 ws) ⊛ ‵ (LendsSlot p.0 m) ⊛ raw (fact 𝓤 (p.0.now.cell ≡ Some m.now)))))) (id⊢ 𝓤 _) $
    await ! tt $ pick ! (λ m₁. split ! $ move ! (1 ∷ []) $ pick ! (λ ws. split ! $ drop ! $ split ! $ move ! (1 ∷ []) $ heard ! _ (λ got₁. move ! (1 ∷ []) $ split ! $ move ! (1 ∷ []) $
    peeks ! (MutRef (named 0) κ C) _ (shows 𝓛 (MutRef (named 0) κ C)) m₁ (v₁ ∷ []) (λ at₁. rewrite ! 0 (λ us. ‵ ((MutRef (named 0) κ C).own_val m₁ us)) at₁.0 refl $
    lands_as ! (ap only at₁.0) refl (tt, tt) $ sets ! (addr ! (through ! refl (stop !))) refl (tt, tt) $
    nothing ! $ move ! (4 ∷ 0 ∷ []) $ join ! $ move ! (2 ∷ 0 ∷ []) $ join ! $
    use0 𝓛 (raw (fact 𝓤 (IsSome p.1.now.cell))) (fact_i 𝓤 _ (emp 𝓤) (seat_has s.now j p.1.now req.2 got.1)) $ move ! (1 ∷ 0 ∷ []) $ use2 𝓛 (raw (H.pre z₂)) (id⊢ 𝓤 _) $
    calls_at ! fr H (h_thm.met 𝓤 𝓛 𝓜 𝓡 (code.calls-held_board::board::slot_in 𝓡.env wired)) z₂ (and_then ! (get ! refl) (no_more !)) (λ v₂.
    use1 𝓛 (later (some (λ (m : MutBor SlotCell). ((‵ (flft κ q) ⊛ ‵ ftrue) ⊛ ‵ ((MutRef (named 0) κ C).own_val m (v₂ ∷ []))) ⊛
    some (λ (ws : Unit {0} × Unit {0}). ‵ (lasts h.ended z₂.0.0 z₂.0.3 ws) ⊛ ‵ (LendsSlot p.1 m) ⊛ raw (fact 𝓤 (p.1.now.cell ≡ Some m.now)))))) (id⊢ 𝓤 _) $
    await ! tt $ pick ! (λ m₂. split ! $ move ! (1 ∷ []) $ pick ! (λ ws. split ! $ drop ! $ split ! $ move ! (1 ∷ []) $ heard ! _ (λ got₂. move ! (1 ∷ []) $ split ! $ move ! (1 ∷ []) $
    peeks ! (MutRef (named 0) κ C) _ (shows 𝓛 (MutRef (named 0) κ C)) m₂ (v₂ ∷ []) (λ at₂. rewrite ! 0 (λ us. ‵ ((MutRef (named 0) κ C).own_val m₂ us)) at₂.0 refl $
    lands_as ! (ap only at₂.0) refl (tt, tt) $
    sets ! (agg ! (and_then ! (get ! refl) (and_then ! (get ! refl) (no_more !)))) refl (tt, (tt, (tt, tt))) $
    -- [the second cell; the token; how its seat follows it; the first cell; how its seat follows it; how the slice follows the seats]
    move ! (5 ∷ 4 ∷ 2 ∷ []) $
    use3 𝓛 (‵ (follows_both (Array S 0) C C s.ghost_name m₁.ghost_name m₂.ghost_name (λ x y. slice_set (slice_set s.now (place s.now i) (seat_with p.0.now x)) (place s.now j) (seat_with p.1.now y))))
    (both_each 𝓛 (Array S 0) S S C C (λ x y. slice_set (slice_set s.now (place s.now i) x) (place s.now j) y) (seat_with p.0.now) (seat_with p.1.now) s.ghost_name p.0.ghost_name p.1.ghost_name m₁.ghost_name m₂.ghost_name) $
    rewrite ! 0 (λ (F : SlotCell → SlotCell → List (Seat SlotCell)). ‵ (follows_both (Array S 0) C C s.ghost_name m₁.ghost_name m₂.ghost_name F)) (λ k x y. two_set_at s.now i j p.0.now p.1.now x y got.0 got.1 k) refl $
    let w = vstruct (vcons (vptr m₁.ref_ptr.0 m₁.ref_ptr.1) (vcons (vptr m₂.ref_ptr.0 m₂.ref_ptr.1) vnil)) in
    nothing ! $ move ! (2 ∷ 0 ∷ []) $ fjoin ! $ move ! (3 ∷ 0 ∷ []) $ fjoin ! $ feq_i ! (List Val) (w ∷ []) (w ∷ []) refl $ fjoin ! $
    fpack ! (Valss Parts) (within (shape (tuple_type Parts)) (m₁, (m₂, tt)) (w ∷ [])) (mut_vals m₁, (mut_vals m₂, tt)) $
    returns ! (look_at ! 0 refl) $ free_all ! refl $
    nothing ! $ nothing ! $ fjoin ! $ nothing ! $ fjoin ! $ nothing ! $ fjoin ! $
    use0 𝓛 (raw (fact 𝓤 ((cell_of s.now i ≡ Some m₁.now) × (cell_of s.now j ≡ Some m₂.now)))) (fact_i 𝓤 _ (emp 𝓤) (cell_at s.now i p.0.now got.0 ∙ got₁, cell_at s.now j p.1.now got.1 ∙ got₂)) $
    move ! (3 ∷ 0 ∷ []) $ join ! $ move ! (3 ∷ 1 ∷ 2 ∷ 0 ∷ []) $
    by ! (leaves 𝓛 f.ended stayed c ((κs, qs, bounds, a, (mut_slice_vals s, (vi, (vj, tt)))), tt) w (m₁, m₂) (tt, (tt, (tt, tt))) (tt, (tt, (tt, tt)))))))))))))))))))))))))
