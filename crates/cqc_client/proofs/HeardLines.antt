-- The lines that bytes are heard as: `heard_all` of whole exchanges, `heard_next` of those and the replies to a next message.
use Rattle.std.proofs.Common.{◌≡◌, ℕ, suc, ◌+◌, ◌<◌, ◌^◌, List, [], ◌∷◌, ◌++◌, length, Bool, false, if◌then◌else◌, All, refl, sym, ap, ◌∙◌, arith, append_assoc}
use Rattle.std.specs.List.{flat_map}
use Rattle.std.proofs.lemmas.List.{append-nil}
use Rattle.std.proofs.lemmas.List.Elements.{All-head, All-tail}
use Rattle.cqc_model.specs.declared.Reply.{Reply}
use Rattle.cqc_model.specs.Wire.{spell}
use Rattle.cqc_model.specs.Ranges.{FitsReply}
use Rattle.cqc_model.specs.Plan.{Cutting, begins_whole}
use Rattle.cqc_model.proofs.Cuts.{cut_part}
use Rattle.session_model.specs.Heard.{heard, lines_of}
use Rattle.cqc_client.specs.Replies.{line_of, is_last_reply}
use Rattle.cqc_client.specs.Talk.{Exchange, AreEarly, AreWhole, app_of, spell_replies, spell_exchanges, lines_of_replies}
use Rattle.cqc_client.proofs.Replies.{cut_reply}
use Rattle.cqc_client.proofs.Hearings.{flat_map_push}

-- an exchange that was answered whole, with an app in its range
abbrev pub Known : Exchange → Type 0
Known e = AreWhole e.replies × (app_of e.message < 2 ^ 16)

abbrev pub lines_of_exchanges : List Exchange → List ℕ
lines_of_exchanges exchanges = flat_map (λ e. lines_of_replies e.replies) exchanges

-- the messages that wait behind a reply
abbrev behind : ℕ → Bool → ℕ
behind k last = if last then k else suc k

-- one reply
heard_one : (k app : ℕ) (r : Reply) (later : List ℕ) → app < 2 ^ 16
    → heard (suc k) (spell app r ++ later) ≡ line_of r ++ heard (behind k (is_last_reply r)) later
heard_one k app r later a = ap (λ (c : Cutting). lines_of (suc k) c.messages) (cut_reply app r later a)

heard_early : (k app : ℕ) (replies : List Reply) (later : List ℕ) → app < 2 ^ 16 → AreEarly replies
    → heard (suc k) (spell_replies app replies ++ later) ≡ lines_of_replies replies ++ heard (suc k) later
heard_early k app [] later a f = refl
heard_early k app (r ∷ rs) later a f =
    let goes_on : is_last_reply r ≡ false = (All-head (λ r. FitsReply r × (is_last_reply r ≡ false)) r rs f).1 in
    let others = heard_early k app rs later a (All-tail (λ r. FitsReply r × (is_last_reply r ≡ false)) r rs f) in
    ap (heard (suc k)) (append_assoc (spell app r) (spell_replies app rs) later)
    ∙ heard_one k app r (spell_replies app rs ++ later) a
    ∙ ap (λ (b : Bool). line_of r ++ heard (behind k b) (spell_replies app rs ++ later)) goes_on
    ∙ ap (λ (x : List ℕ). line_of r ++ x) others
    ∙ sym (append_assoc (line_of r) (lines_of_replies rs) (heard (suc k) later))

heard_whole : (k app : ℕ) (replies : List Reply) (later : List ℕ) → app < 2 ^ 16 → AreWhole replies
    → heard (suc k) (spell_replies app replies ++ later) ≡ lines_of_replies replies ++ heard k later
heard_whole k app replies later a w =
    let split : spell_replies app replies ≡ spell_replies app w.early ++ spell app w.last = ap (spell_replies app) w.is ∙ flat_map_push (spell app) w.early w.last in
    let lines : lines_of_replies replies ≡ lines_of_replies w.early ++ line_of w.last = ap lines_of_replies w.is ∙ flat_map_push line_of w.early w.last in
    ap (λ (x : List ℕ). heard (suc k) (x ++ later)) split
    ∙ ap (heard (suc k)) (append_assoc (spell_replies app w.early) (spell app w.last) later)
    ∙ heard_early k app w.early (spell app w.last ++ later) a w.go_on
    ∙ ap (λ (x : List ℕ). lines_of_replies w.early ++ x) (heard_one k app w.last later a ∙ ap (λ (b : Bool). line_of w.last ++ heard (behind k b) later) w.ends)
    ∙ sym (append_assoc (lines_of_replies w.early) (line_of w.last) (heard k later))
    ∙ ap (λ (x : List ℕ). x ++ heard k later) (sym lines)

-- whole exchanges in front
pub heard_done : (done : List Exchange) (k : ℕ) (later : List ℕ) → All Known done
    → heard (length done + k) (spell_exchanges done ++ later) ≡ lines_of_exchanges done ++ heard k later
heard_done [] k later f = ap (λ (n : ℕ). heard n later) (omega arith)
heard_done (e ∷ es) k later f =
    let here : Known e = All-head Known e es f in
    let bytes = spell_replies (app_of e.message) e.replies in
    ap (λ (n : ℕ). heard n ((bytes ++ spell_exchanges es) ++ later)) (omega arith)
    ∙ ap (heard (suc (length es + k))) (append_assoc bytes (spell_exchanges es) later)
    ∙ heard_whole (length es + k) (app_of e.message) e.replies (spell_exchanges es ++ later) here.1 here.0
    ∙ ap (λ (x : List ℕ). lines_of_replies e.replies ++ x) (heard_done es k later (All-tail Known e es f))
    ∙ sym (append_assoc (lines_of_replies e.replies) (lines_of_exchanges es) (heard k later))

-- where no whole reply is in front, nothing is heard
pub heard_part : (k : ℕ) (part : List ℕ) → begins_whole part ≡ false → heard k part ≡ []
heard_part k part h = ap (λ (c : Cutting). lines_of k c.messages) (cut_part part h)

-- whole exchanges alone
pub heard_all : (done : List Exchange) → All Known done → heard (length done) (spell_exchanges done) ≡ lines_of_exchanges done
heard_all done f =
    ap (λ (n : ℕ). heard n (spell_exchanges done)) (omega arith)
    ∙ ap (heard (length done + 0)) (sym (append-nil (spell_exchanges done)))
    ∙ heard_done done 0 [] f
    ∙ ap (λ (x : List ℕ). lines_of_exchanges done ++ x) (heard_part 0 [] refl)
    ∙ append-nil (lines_of_exchanges done)

-- whole exchanges, and replies to a next message
pub heard_next : (done : List Exchange) (next : Exchange) (k : ℕ) (later : List ℕ) → All Known done → app_of next.message < 2 ^ 16 → AreEarly next.replies
    → heard (length done + suc k) (spell_exchanges (done ++ next ∷ []) ++ later) ≡ (lines_of_exchanges done ++ lines_of_replies next.replies) ++ heard (suc k) later
heard_next done next k later f a early =
    let bytes = spell_replies (app_of next.message) next.replies in
    ap (λ (x : List ℕ). heard (length done + suc k) (x ++ later)) (flat_map_push (λ (e : Exchange). spell_replies (app_of e.message) e.replies) done next)
    ∙ ap (heard (length done + suc k)) (append_assoc (spell_exchanges done) bytes later)
    ∙ heard_done done (suc k) (bytes ++ later) f
    ∙ ap (λ (x : List ℕ). lines_of_exchanges done ++ x) (heard_early k (app_of next.message) next.replies later a early)
    ∙ sym (append_assoc (lines_of_exchanges done) (lines_of_replies next.replies) (heard (suc k) later))

-- the line of one reply more, whatever follows it
pub heard_line : (k app : ℕ) (r : Reply) → app < 2 ^ 16 → heard (suc k) (spell app r) ≡ line_of r
heard_line k app r a =
    ap (heard (suc k)) (sym (append-nil (spell app r))) ∙ heard_one k app r [] a
    ∙ ap (λ (x : List ℕ). line_of r ++ x) (heard_part (behind k (is_last_reply r)) [] refl) ∙ append-nil (line_of r)
