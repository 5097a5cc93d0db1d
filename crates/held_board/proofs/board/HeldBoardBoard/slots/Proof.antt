-- `slots` opens the seats and lends the cells of two of them. Assumes `Logic`.
use Rattle.std.proofs.Common.{◌≡◌, ◌≢◌, IsSome, List, [], ◌∷◌, refl, sym, ap, subst, w8, MutBor}
use Rattle.std.proofs.raw_atomic.Walks.{proved, leaves}
use Rattle.std.specs.Prelude.{Some}
use base.Logic.{id⊢, emp}
use base.Fml.{ftrue, flft}
use mir.Syntax.{named}
use mir.Val.{vint}
use contract.Monad.{fact, fact_i}
use contract.Running.{tables}
use types.Kit.{‵, raw, ◌⊛◌, some, later, ◌$◌, ◌∵◌, !, qed, by, move, keep, drop, use0, use1, use2, split, join, fjoin, pick, await, rewrite}
use types.Run.{enter, addr, stop, no_more, and_then, returns}
use types.ByLocal.{alloc_all, pass_all, free_all, look_at, get, through, sets, lands_as}
use denote.Builtin.{u8}
use denote.Exit.{yes, no}
use denote.Laws.{shows}
use denote.Plain.{uint_vals, uint_Tells}
use denote.Ref.{MutRef, mut_vals, mut_Tells, mut_Lawful}
use denote.Slice.{MutSlice, mut_slice_vals}
use denote.Signature.{plain, mut_ref_to}
use denote.Steps.{nothing, heard, only, peeks}
use denote.Struct.Declared.{shape}
use denote.Struct.Struct.{Struct-Lawful}
use denote.Struct.Tuple.{Tuple, tuple_type}
use denote.Triple.Call.{calls_at}
use denote.Triple.Clauses.{lasts}
use denote.Triple.Spec.{triple_of}
use denote.Triple.Table.{framed}
use denote.Triple.Walked.{Stays, stay_dropped, Goes-dropped, Goes-spent_ref}
use denote.Array.{Array}
use denote.Follow.{follows_both}
use Rattle.core_cells.proofs.Glue.{both_then}
use Rattle.held_board.proofs.SeatLemmas.{filled_cells}
use Rattle.held_board.specs.Seats.{cell_of, with_cell}
use Rattle.held_board.specs.Held.{Held}
use Rattle.held_board.specs.HeldLends.{LendsSlotSeats, LendsTwoCells, with_slot_seats}
use Rattle.held_board.specs.declared.seat.Seat.{Seat}
use Rattle.held_board.specs.HeldLends.{slot_seat_row as Q}
use Rattle.core_cells.specs.declared.cells.SlotCell.{SlotCell}
use Rattle.held_board.specs.contracts.board.HeldBoard.{the_row as R}
use Rattle.core_cells.specs.contracts.cells.SlotCell.{the_row as S}
use Rattle.held_board.specs.contracts.board.HeldBoardBoard.slots as f
use Rattle.held_board.proofs.board.HeldBoardBoard.slots.Statement.{statement}
use Rattle.held_board.proofs.board.HeldBoardBoard.slots.Code as code
use Rattle.held_board.specs.contracts.board.all_slots as g
use Rattle.held_board.proofs.board.all_slots.Met as g_thm
use Rattle.held_board.specs.contracts.board.two_cells as h
use Rattle.held_board.proofs.board.two_cells.Met as h_thm

abbrev stayed : Stays f.ended.signature.params f.ended.kept
stayed = (stay_dropped (mut_ref_to (0 ∷ []) tt (plain (λ _. R))) no, (stay_dropped (plain (λ _. u8)) yes, (stay_dropped (plain (λ _. u8)) yes, tt)))

pub slots_spec : {M : Type 1} → statement M
slots_spec 𝓤 𝓛 𝓜 𝓡 wired =
    let c = f.clauses 𝓛 𝓜.mem 𝓡.returns in
    proved 𝓛 f.ended stayed c 𝓜 𝓡 (Goes-spent_ref 𝓛 1 (0 ∷ []) tt (plain (λ _. R)), (Goes-dropped 𝓛 1 (plain (λ _. u8)) yes (λ κs x w. refl), (Goes-dropped 𝓛 1 (plain (λ _. u8)) yes (λ κs x w. refl), tt)))
    f.Key.name code.function (code.unfolded 𝓤 𝓛.H 𝓜 𝓡 wired)
    (λ κs. (mut_vals, (uint_vals w8, (uint_vals w8, tt)))) (λ κs. (mut_Tells (named 0) κs.0 R, (uint_Tells w8, (uint_Tells w8, tt)))) (λ κs qs bounds a _ are.
    let κ = κs.0 in let q = qs.0 in let r = a.0 in let i = a.1.0 in let j = a.1.1.0 in let cells = r.now.slots in
    let vs = mut_vals r in let vi = vint w8 i ∷ [] in let vj = vint w8 j ∷ [] in
    qed 𝓛 (((‵ (flft κ q) ⊛ ‵ ftrue) ⊛ ‵ ((MutRef (named 0) κ R).own_val r vs) ⊛ ‵ (u8.own_val i vi) ⊛ ‵ (u8.own_val j vj) ⊛ ‵ ftrue) ∷ raw (fact 𝓤 ((i ≢ j) × IsSome (cell_of cells i) × IsSome (cell_of cells j))) ∷ []) ∵
    move ! (1 ∷ []) $ heard ! _ (λ req. split ! $ split ! $ move ! (2 ∷ []) $ split ! $ move ! (1 ∷ []) $ split ! $ move ! (1 ∷ []) $ split ! $ keep ! (3 ∷ 4 ∷ 2 ∷ 0 ∷ []) $
    -- [r; the token; i; j]
    enter ! _ _ _ _ _ $ alloc_all ! (λ l. pass_all ! refl ((tt, tt), ((tt, record { fits = are.1.0.1 }), ((tt, record { fits = are.1.1.0.1 }), tt))) $
    sets ! (addr ! (through ! refl (stop !))) refl (tt, tt) $
    let fr = framed 𝓤 𝓛.H 𝓜 (tables 𝓤 𝓛.H 𝓜 𝓡 𝓡.env) in
    let G = triple_of 𝓛 g.signature (g.spec 𝓛 𝓜.mem 𝓡.returns) in
    let z : G.Ghost = (((κ, tt), (q, tt), tt, (r, tt), (vs, tt)), tt) in
    nothing ! $ move ! (1 ∷ 0 ∷ []) $ join ! $ nothing ! $ move ! (2 ∷ 0 ∷ []) $ join ! $ join ! $
    nothing ! $ move ! (1 ∷ 0 ∷ []) $ use2 𝓛 (raw (G.pre z)) (id⊢ 𝓤 _) $
    calls_at ! fr G (g_thm.met 𝓤 𝓛 𝓜 𝓡 (code.calls-held_board::board::all_slots 𝓡.env wired)) z (and_then ! (get ! refl) (no_more !)) (λ v.
    use1 𝓛 (later (some (λ (s : MutBor (List (Seat SlotCell))). ((‵ (flft κ q) ⊛ ‵ ftrue) ⊛ ‵ ((MutSlice (named 0) κ Q).own_val s (v ∷ []))) ⊛
    some (λ (ws : Unit {0} × Unit {0}). ‵ (lasts g.ended z.0.0 z.0.3 ws) ⊛ ‵ (LendsSlotSeats r s) ⊛ raw (fact 𝓤 (s.now ≡ cells)))))) (id⊢ 𝓤 _) $
    await ! tt $ pick ! (λ s. split ! $ move ! (1 ∷ []) $ pick ! (λ ws. split ! $ drop ! $ split ! $ move ! (1 ∷ []) $ heard ! _ (λ is_cells. move ! (1 ∷ []) $ split ! $ move ! (1 ∷ []) $
    -- [the slice; the token; how r follows it; i; j]
    peeks ! (MutSlice (named 0) κ Q) _ (shows 𝓛 (MutSlice (named 0) κ Q)) s (v ∷ []) (λ is.
    rewrite ! 0 (λ us. ‵ ((MutSlice (named 0) κ Q).own_val s us)) is.0.0 refl $
    lands_as ! (ap only is.0.0) refl (tt, (tt, (record { fits = is.0.1.0 }, tt))) $
    let G₂ = triple_of 𝓛 h.signature (h.spec 𝓛 𝓜.mem 𝓡.returns) in
    let z₂ : G₂.Ghost = (((κ, tt), (q, tt), tt, (s, (i, (j, tt))), (mut_slice_vals s, (vi, (vj, tt)))), tt) in
    use0 𝓛 (raw (fact 𝓤 ((i ≢ j) × IsSome (cell_of s.now i) × IsSome (cell_of s.now j)))) (fact_i 𝓤 _ (emp 𝓤) (req.0, subst (λ (l : List (Seat SlotCell)). IsSome (cell_of l i)) (sym is_cells) req.1, subst (λ (l : List (Seat SlotCell)). IsSome (cell_of l j)) (sym is_cells) req.2)) $
    nothing ! $ move ! (6 ∷ 0 ∷ []) $ join ! $ move ! (5 ∷ 0 ∷ []) $ join ! $ move ! (2 ∷ 0 ∷ []) $ join ! $ move ! (2 ∷ 0 ∷ []) $ join ! $
    use2 𝓛 (raw (G₂.pre z₂)) (id⊢ 𝓤 _) $
    calls_at ! fr G₂ (h_thm.met 𝓤 𝓛 𝓜 𝓡 (code.calls-held_board::board::two_cells 𝓡.env wired)) z₂ (and_then ! (get ! refl) (and_then ! (get ! refl) (and_then ! (get ! refl) (no_more !)))) (λ v₂.
    use1 𝓛 (later (some (λ (p : MutBor SlotCell × MutBor SlotCell). ((‵ (flft κ q) ⊛ ‵ ftrue) ⊛ ‵ ((Tuple (MutRef (named 0) κ S ∷ MutRef (named 0) κ S ∷ [])).own_val p (v₂ ∷ []))) ⊛
    some (λ (ws : Unit {0} × (Unit {0} × (Unit {0} × Unit {0}))). ‵ (lasts h.ended z₂.0.0 z₂.0.3 ws) ⊛ ‵ (LendsTwoCells s i j p) ⊛ raw (fact 𝓤 ((cell_of s.now i ≡ Some p.0.now) × (cell_of s.now j ≡ Some p.1.now))))))) (id⊢ 𝓤 _) $
    await ! tt $ pick ! (λ p. split ! $ move ! (1 ∷ []) $ pick ! (λ ws. split ! $ drop ! $ split ! $ move ! (1 ∷ []) $ heard ! _ (λ got. move ! (2 ∷ 0 ∷ []) $
    use2 𝓛 (‵ (follows_both R S S r.ghost_name p.0.ghost_name p.1.ghost_name (λ x y. with_slot_seats r.now (with_cell (with_cell s.now i x) j y))))
    (both_then 𝓛 R (Array Q 0) S S (with_slot_seats r.now) (λ x y. with_cell (with_cell s.now i x) j y) r.ghost_name s.ghost_name p.0.ghost_name p.1.ghost_name) $
    rewrite ! 0 (λ (l : List (Seat SlotCell)). ‵ (follows_both R S S r.ghost_name p.0.ghost_name p.1.ghost_name (λ x y. with_slot_seats r.now (with_cell (with_cell l i x) j y)))) is_cells refl $
    rewrite ! 0 (λ (F : SlotCell → SlotCell → Held). ‵ (follows_both R S S r.ghost_name p.0.ghost_name p.1.ghost_name F)) (λ k x y. record r.now { slots = filled_cells r.now.slots i j x y k }) refl $
    move ! (1 ∷ []) $ split ! $ move ! (1 ∷ []) $
    -- [the pair; the token; how r follows it]
    peeks ! (Tuple (MutRef (named 0) κ S ∷ MutRef (named 0) κ S ∷ [])) _ (shows 𝓛 (Tuple (MutRef (named 0) κ S ∷ MutRef (named 0) κ S ∷ []))) p (v₂ ∷ []) (λ pair.
    lands_as ! refl refl ((Struct-Lawful 𝓛 (shape (tuple_type (MutRef (named 0) κ S ∷ MutRef (named 0) κ S ∷ []))) (mut_Lawful 𝓛 (named 0) κ S, (mut_Lawful 𝓛 (named 0) κ S, tt))).typed (p.0, (p.1, tt)) (v₂ ∷ []) pair).0 $
    returns ! (look_at ! 0 refl) $ free_all ! refl $
    nothing ! $ nothing ! $ fjoin ! $ nothing ! $ fjoin ! $ nothing ! $ fjoin ! $
    use0 𝓛 (raw (fact 𝓤 ((cell_of cells i ≡ Some p.0.now) × (cell_of cells j ≡ Some p.1.now)))) (fact_i 𝓤 _ (emp 𝓤) (subst (λ (l : List (Seat SlotCell)). cell_of l i ≡ Some p.0.now) is_cells got.0, subst (λ (l : List (Seat SlotCell)). cell_of l j ≡ Some p.1.now) is_cells got.1)) $
    move ! (4 ∷ 0 ∷ []) $ join ! $ move ! (3 ∷ 1 ∷ 2 ∷ 0 ∷ []) $
    by ! (leaves 𝓛 f.ended stayed c ((κs, qs, bounds, a, (vs, (vi, (vj, tt)))), tt) v₂ p (tt, (tt, (tt, tt))) (tt, (tt, (tt, tt)))))))))))))))))
