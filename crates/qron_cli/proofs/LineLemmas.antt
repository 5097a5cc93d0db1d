-- The lines of connections, one by one, and what came of all.
use Rattle.std.proofs.Common.{◌≡◌, ℕ, suc, ◌+◌, ◌<◌, List, [], ◌∷◌, ◌++◌, length, get_or, take, map, Option, None, Some, Bool, true, false, Ok, Err, refl, sym, ap, ◌∙◌, arith, take-suc, length-take-le}
use Rattle.std.specs.Prelude.{if◌then◌else◌, Result}
use Rattle.std.specs.List.{list_any}
use Rattle.std.specs.Result.{is_ok, is_err}
use Rattle.std.proofs.lemmas.List.{append-nil, append_assoc, length-map, map-append}
use Rattle.clap.proofs.WalkLemmas.{list_any-map}
use Rattle.session_model.specs.declared.Ending.{Ending}
use Rattle.session_model.specs.Turns.{Finish}
use Rattle.cqc_server.specs.Replay.{Seen}
use Rattle.cqc_server.specs.InMemory.{shown_end}
use Rattle.qron_cli.specs.Lines.{end_line, end_lines, is_faulty, is_unfinished, outcome_of_all, ending_in}
use Rattle.qron_cli.specs.declared.complaint.Complaint.{Complaint}
use Rattle.qron_cli.specs.declared.complaint.Complaint.TheVariants.{Fault}
use Rattle.qron_cli.specs.declared.status.Work.{Work}
use Rattle.qron_cli.specs.declared.status.Work.TheVariants.{Done, Unfinished}

-- one more line
pub end_lines_more : (n : ℕ) (ends : List (Option Finish)) (e : Option Finish) → end_lines n (ends ++ e ∷ []) ≡ end_lines n ends ++ end_line (n + length ends) e
end_lines_more n [] e = append-nil (end_line n e) ∙ ap (λ m. end_line m e) (omega arith)
end_lines_more n (x ∷ ends) e =
    ap (λ t. end_line n x ++ t) (end_lines_more (suc n) ends e ∙ ap (λ m. end_lines (suc n) ends ++ end_line m e) (omega arith))
    ∙ sym (append_assoc (end_line n x) (end_lines (suc n) ends) (end_line (n + suc (length ends)) e))

-- what came of connections of which some failed, or not, and some are unfinished, or not
pub outcome_by : {A : Type 0} (ending : A → Option Ending) (xs : List A) (faulty unfinished : Bool)
    → faulty ≡ list_any (λ a. is_faulty (ending a)) xs → unfinished ≡ list_any (λ a. is_unfinished (ending a)) xs
    → outcome_of_all (map ending xs) ≡ (if faulty then Err Fault else (if unfinished then Ok Unfinished else Ok Done))
outcome_by ending xs faulty unfinished f u =
    let choose : Bool → Bool → Result Work Complaint = λ b c. if b then Err Fault else (if c then Ok Unfinished else Ok Done) in
    ap (λ b. choose b (list_any is_unfinished (map ending xs))) (sym (f ∙ list_any-map is_faulty ending xs))
    ∙ ap (choose faulty) (sym (u ∙ list_any-map is_unfinished ending xs))

-- the line of the next connection behind those in front of it
pub lines_next : {A S : Type 0} (end : S → Option Finish) (seen : A → S) (actors : List A) (n : ℕ) (d : A) (before more after : List ℕ) → n < length actors
    → before ≡ end_lines 0 (map end (map seen (take n actors))) → more ≡ end_line n (end (seen (get_or actors n d))) → after ≡ before ++ more
    → after ≡ end_lines 0 (map end (map seen (take (n + 1) actors)))
lines_next {A} {S} end seen actors n d before more after few so_far one is =
    let front : List (Option Finish) = map end (map seen (take n actors)) in
    let last : Option Finish = end (seen (get_or actors n d)) in
    let count : n ≡ 0 + length front =
    omega (arith, length-map (map seen (take n actors)) end, length-map (take n actors) seen, length-take-le n actors (omega (arith, few))) in
    let next : take (n + 1) actors ≡ take n actors ++ get_or actors n d ∷ [] = ap (λ m. take m actors) (plus n) ∙ take-suc actors n d few in
    let all : map end (map seen (take (n + 1) actors)) ≡ front ++ last ∷ [] =
    ap (λ (xs : List A). map end (map seen xs)) next
    ∙ ap (map end) (map-append seen (take n actors) (get_or actors n d ∷ []))
    ∙ map-append end (map seen (take n actors)) (seen (get_or actors n d) ∷ []) in
    is ∙ ap (λ x. x ++ more) so_far
    ∙ ap (λ x. end_lines 0 front ++ x) (one ∙ ap (λ m. end_line m last) count)
    ∙ sym (end_lines_more 0 front last)
    ∙ ap (end_lines 0) (sym all)
  where
    plus : (n : ℕ) → n + 1 ≡ suc n
    plus n = omega arith

-- the endings that are shown are those of the connections
pub endings_shown : {A : Type 0} (seen : A → Seen) (xs : List A) → map ending_in (map shown_end (map seen xs)) ≡ map (λ a. (seen a).ending) xs
endings_shown seen [] = refl
endings_shown seen (x ∷ xs) =
    ap (λ (o : Option Ending). o ∷ map ending_in (map shown_end (map seen xs))) (one (seen x) (seen x).ending refl)
    ∙ ap (λ (os : List (Option Ending)). (seen x).ending ∷ os) (endings_shown seen xs)
  where
    one : (s : Seen) (o : Option Ending) → s.ending ≡ o → ending_in (shown_end s) ≡ s.ending
    one s None e = ap (λ (x : Option Ending). ending_in (shown_end (record s { ending = x }))) e ∙ sym e
    one s (Some f) e = ap (λ (x : Option Ending). ending_in (shown_end (record s { ending = x }))) e ∙ sym e

-- a text that was pushed stands behind what was there
pub pushed : {E : Type 0} (r : Result (Unit {0}) E) (old text new : List ℕ) → false ≡ is_err r → new ≡ (if is_ok r then old ++ text else old) → new ≡ old ++ text
pushed (Ok u) old text new good is = is
pushed (Err e) old text new good is = absurd (never good)
  where
    never : false ≡ true → ⊥
    never e = cc
