-- A talk from message to message: `more` is one that was answered whole, `stops` and `half_sent` are ends before the last, `ends` the last.
use Rattle.std.proofs.Common.{◌≡◌, ℕ, suc, ◌+◌, ◌<◌, ◌≤◌, ◌^◌, List, [], ◌∷◌, ◌++◌, length, take, drop, get_or, Option, All, Err, refl, sym, ap, ◌∙◌, arith, append_assoc, length-append, length-drop}
use Rattle.std.proofs.lemmas.List.{append-nil, take_all, take-append-drop, take_more}
use Rattle.std.proofs.lemmas.List.Elements.{All-nil, All-push, All-weaker}
use Rattle.cqc_model.specs.Wire.{spell_message}
use Rattle.session_model.specs.Heard.{heard}
use Rattle.script.specs.Drafts.{Sending}
use Rattle.cqc_client.specs.declared.stops.Stop.{Stop}
use Rattle.cqc_client.specs.declared.stops.Stop.TheVariants as stop
use Rattle.cqc_client.specs.Replies.{line_of}
use Rattle.cqc_client.specs.Talk.{Exchange, Said, AreEarly, AreWhole, IsDone, Awaits, IsHeard, IsUnprinted, EndsAs, app_of, spell_script, spell_replies, spell_exchanges, messages_of, lines_of_replies, talk_limit}
use Rattle.cqc_client.specs.Stops.{IsHalfPrinted, IsHalfSent, Exchanges, IsWholeHeard, IsPartHeard, talked_at}
use Rattle.cqc_client.proofs.Hearings.{flat_map_push}
use Rattle.cqc_client.proofs.HeardLines.{Known, lines_of_exchanges, heard_all, heard_done, heard_next, heard_line, heard_part}

-- one talk after another
abbrev pub and_then : Said → Said → Said
and_then a b = record { read = a.read ++ b.read; sent = a.sent ++ b.sent; printed = a.printed ++ b.printed }

abbrev pub nothing_said : Said
nothing_said = record { read = []; sent = []; printed = [] }

-- the first so many messages were answered whole, and no more was said
pub record Progress (script : List Sending) (at : ℕ) (said : Said) : Type 0 where
  pub done : List Exchange
  pub messages : messages_of done ≡ take at script
  pub count : length done ≡ at
  pub known : All Known done
  pub read : said.read ≡ spell_exchanges done
  pub sent : said.sent ≡ spell_script (messages_of done)
  pub printed : said.printed ≡ lines_of_exchanges done

pub begun : (script : List Sending) → Progress script 0 nothing_said
begun script = record { done = []; messages = refl; count = refl; known = All-nil Known; read = refl; sent = refl; printed = refl }

messages_push : (done : List Exchange) (e : Exchange) → messages_of (done ++ e ∷ []) ≡ messages_of done ++ e.message ∷ []
messages_push [] e = refl
messages_push (d ∷ ds) e = ap (λ (x : List Sending). d.message ∷ x) (messages_push ds e)

script_push : (done : List Exchange) (e : Exchange)
    → spell_script (messages_of (done ++ e ∷ [])) ≡ spell_script (messages_of done) ++ spell_message (e.message).head (e.message).list
script_push done e = ap spell_script (messages_push done e) ∙ flat_map_push (λ (m : Sending). spell_message m.head m.list) (messages_of done) e.message

exchanges_push : (done : List Exchange) (e : Exchange) → spell_exchanges (done ++ e ∷ []) ≡ spell_exchanges done ++ spell_replies (app_of e.message) e.replies
exchanges_push done e = flat_map_push (λ (x : Exchange). spell_replies (app_of x.message) x.replies) done e

-- the next message was answered whole
pub more : (script : List Sending) (at : ℕ) (a b : Said) (m : Sending) → Progress script at a → at < length script
    → m ≡ get_or script at m → app_of m < 2 ^ 16 → b.sent ≡ spell_message m.head m.list → IsWholeHeard (app_of m) b.read b.printed
    → Progress script (at + 1) (and_then a b)
more script at a b m p h is app sent w =
    let e : Exchange = record { message = m; replies = w.replies } in
    record {
      done = p.done ++ e ∷ [];
      messages = messages_push p.done e ∙ ap (λ (x : List Sending). x ++ m ∷ []) p.messages ∙ ap (λ (x : Sending). take at script ++ x ∷ []) is
          ∙ sym (take_more script at m h);
      count = omega (arith, length-append p.done (e ∷ []), p.count);
      known = All-push Known p.done e p.known (w.whole, app);
      read = ap (λ (x : List ℕ). x ++ b.read) p.read ∙ ap (λ (x : List ℕ). spell_exchanges p.done ++ x) w.bytes ∙ sym (exchanges_push p.done e);
      sent = ap (λ (x : List ℕ). x ++ b.sent) p.sent ∙ ap (λ (x : List ℕ). spell_script (messages_of p.done) ++ x) sent ∙ sym (script_push p.done e);
      printed = ap (λ (x : List ℕ). x ++ b.printed) p.printed ∙ ap (λ (x : List ℕ). lines_of_exchanges p.done ++ x) w.printed
          ∙ sym (flat_map_push (λ (x : Exchange). lines_of_replies x.replies) p.done e);
    }

each_whole : (done : List Exchange) → All Known done → All (λ e. AreWhole e.replies) done
each_whole done f = All-weaker Known (λ e. AreWhole e.replies) (λ e k. k.0) done f

-- the last message was answered whole
pub ends : (script : List Sending) (at : ℕ) (said : Said) → length script ≤ at → at ≤ length script → Progress script at said → IsDone script at said
ends script at said h k p =
    let all : messages_of p.done ≡ script = p.messages ∙ take_all at script h in
    let count : length p.done ≡ length script = omega (arith, p.count) in
    record {
      done = p.done;
      answered = record { messages = sym all ∙ sym (append-nil (messages_of p.done)); each = each_whole p.done p.known };
      count = sym p.count;
      read = p.read;
      sent = p.sent ∙ ap spell_script all;
      printed = p.printed ∙ sym (heard_all p.done p.known) ∙ ap (λ (n : ℕ). heard n (spell_exchanges p.done)) count ∙ ap (heard (length script)) (sym p.read);
    }

-- the messages from a place on
at_place : (script : List Sending) (at : ℕ) (d : Sending) → at < length script → script ≡ take at script ++ get_or script at d ∷ drop (at + 1) script
at_place script at d h = sym (take-append-drop (at + 1) script) ∙ ap (λ (x : List Sending). x ++ drop (at + 1) script) (take_more script at d h)
    ∙ append_assoc (take at script) (get_or script at d ∷ []) (drop (at + 1) script)

split : (script : List Sending) (at : ℕ) (said : Said) (m : Sending) (p : Progress script at said) → at < length script → m ≡ get_or script at m
    → script ≡ messages_of p.done ++ m ∷ drop (at + 1) script
split script at said m p h is =
    at_place script at m h ∙ ap (λ (x : Sending). take at script ++ x ∷ drop (at + 1) script) (sym is)
    ∙ ap (λ (x : List Sending). x ++ m ∷ drop (at + 1) script) (sym p.messages)

waiting_count : (script : List Sending) (at : ℕ) (said : Said) (p : Progress script at said) → at < length script
    → length script ≡ length p.done + suc (length (drop (at + 1) script))
waiting_count script at said p h = omega (arith, p.count, length-drop (at + 1) script)

-- the next message was sent, and its last reply has not come
abbrev awaits_at : (script : List Sending) (at : ℕ) (a b : Said) (m : Sending) (s : Stop) (left : Option (List ℕ)) (now : ℕ) (p : Progress script at a)
    → at < length script → m ≡ get_or script at m → b.sent ≡ spell_message m.head m.list
    → (w : IsPartHeard s (app_of m) b.read b.printed left now) → Awaits script at w.part (and_then a b)
awaits_at script at a b m s left now p h is sent w =
    let next : Exchange = record { message = m; replies = w.replies } in
    record {
      done = p.done;
      next = next;
      later = drop (at + 1) script;
      answered = record { messages = split script at a m p h is; each = each_whole p.done p.known };
      early = w.early;
      count = sym p.count;
      read = ap (λ (x : List ℕ). x ++ b.read) p.read ∙ ap (λ (x : List ℕ). spell_exchanges p.done ++ x) w.bytes
          ∙ sym (append_assoc (spell_exchanges p.done) (spell_replies (app_of m) w.replies) w.part) ∙ ap (λ (x : List ℕ). x ++ w.part) (sym (exchanges_push p.done next));
      sent = ap (λ (x : List ℕ). x ++ b.sent) p.sent ∙ ap (λ (x : List ℕ). spell_script (messages_of p.done) ++ x) sent ∙ sym (script_push p.done next);
    }

-- what is heard of the whole replies, and of what follows them
heard_so : (script : List Sending) (at : ℕ) (a : Said) (next : Exchange) (later : List ℕ) (p : Progress script at a) → at < length script
    → app_of next.message < 2 ^ 16 → AreEarly next.replies
    → heard (length script) (spell_exchanges (p.done ++ next ∷ []) ++ later)
    ≡ (lines_of_exchanges p.done ++ lines_of_replies next.replies) ++ heard (suc (length (drop (at + 1) script))) later
heard_so script at a next later p h app early =
    ap (λ (n : ℕ). heard n (spell_exchanges (p.done ++ next ∷ []) ++ later)) (waiting_count script at a p h)
    ∙ heard_next p.done next (length (drop (at + 1) script)) later p.known app early

heard_now : (script : List Sending) (at : ℕ) (a : Said) (next : Exchange) (p : Progress script at a) → at < length script
    → app_of next.message < 2 ^ 16 → AreEarly next.replies
    → heard (length script) (spell_exchanges (p.done ++ next ∷ [])) ≡ lines_of_exchanges p.done ++ lines_of_replies next.replies
heard_now script at a next p h app early =
    ap (heard (length script)) (sym (append-nil (spell_exchanges (p.done ++ next ∷ []))))
    ∙ heard_so script at a next [] p h app early
    ∙ ap (λ (x : List ℕ). (lines_of_exchanges p.done ++ lines_of_replies next.replies) ++ x) (heard_part (suc (length (drop (at + 1) script))) [] refl)
    ∙ append-nil (lines_of_exchanges p.done ++ lines_of_replies next.replies)

-- each whole reply has its line
abbrev heard_at : (script : List Sending) (at : ℕ) (a b : Said) (m : Sending) (s : Stop) (left : Option (List ℕ)) (now : ℕ) (p : Progress script at a)
    → at < length script → m ≡ get_or script at m → app_of m < 2 ^ 16 → b.sent ≡ spell_message m.head m.list
    → (w : IsPartHeard s (app_of m) b.read b.printed left now) → w.tail ≡ [] → IsHeard script at w.part (and_then a b)
heard_at script at a b m s left now p h is app sent w e = record {
  awaits = awaits_at script at a b m s left now p h is sent w;
  printed = ap (λ (x : List ℕ). x ++ b.printed) p.printed
      ∙ ap (λ (x : List ℕ). lines_of_exchanges p.done ++ x) (w.printed ∙ ap (λ (x : List ℕ). lines_of_replies w.replies ++ x) e ∙ append-nil (lines_of_replies w.replies))
      ∙ sym (heard_now script at a (record { message = m; replies = w.replies }) p h app w.early);
}

-- the line of the last reply was printed only in part
unprinted : (script : List Sending) (at : ℕ) (a b : Said) (m : Sending) (left : Option (List ℕ)) (now : ℕ) → Progress script at a
    → at < length script → m ≡ get_or script at m → app_of m < 2 ^ 16 → b.sent ≡ spell_message m.head m.list
    → IsPartHeard stop.NotPrinted (app_of m) b.read b.printed left now → IsUnprinted script (and_then a b)
unprinted script at a b m left now p h is app sent w =
    let half : IsHalfPrinted (app_of m) w.part w.tail = w.stops in
    let next : Exchange = record { message = m; replies = w.replies } in
    let awaits : Awaits script at w.part (and_then a b) = awaits_at script at a b m stop.NotPrinted left now p h is sent w in
    let k : ℕ = length (drop (at + 1) script) in
    let lines : List ℕ = lines_of_exchanges p.done ++ lines_of_replies w.replies in
    let shown : a.printed ++ b.printed ≡ lines ++ w.tail =
    ap (λ (x : List ℕ). x ++ b.printed) p.printed ∙ ap (λ (x : List ℕ). lines_of_exchanges p.done ++ x) w.printed
    ∙ sym (append_assoc (lines_of_exchanges p.done) (lines_of_replies w.replies) w.tail) in
    let whole : heard (length script) (a.read ++ b.read) ≡ lines ++ line_of half.reply =
    ap (heard (length script)) (awaits.read) ∙ heard_so script at a next w.part p h app w.early
    ∙ ap (λ (x : List ℕ). lines ++ x) (ap (heard (suc k)) half.is ∙ heard_line k (app_of m) half.reply app) in
    record {
      messages = at;
      reply = half.reply;
      fits = half.fits;
      part = w.part;
      awaits = awaits;
      is = half.is;
      missing = half.missing;
      printed = ap (λ (x : List ℕ). x ++ half.missing) shown ∙ append_assoc lines w.tail half.missing ∙ ap (λ (x : List ℕ). lines ++ x) half.line ∙ sym whole;
      some = half.some;
      few = omega (arith, ap (λ (x : List ℕ). length x) half.line, length-append w.tail half.missing);
    }

-- a talk stops at a message that was sent
pub stops : (s : Stop) (script : List Sending) (at : ℕ) (a b : Said) (m : Sending) (left : Option (List ℕ)) (now : ℕ) → Progress script at a
    → at < length script → m ≡ get_or script at m → app_of m < 2 ^ 16 → b.sent ≡ spell_message m.head m.list
    → IsPartHeard s (app_of m) b.read b.printed left now → now + length (a.read ++ b.read) ≡ talk_limit
    → EndsAs (talked_at s at) script (and_then a b) left
stops stop.Ended script at a b m left now p h is app sent w paid =
    let f = w.stops in
    ((w.part, heard_at script at a b m stop.Ended left now p h is app sent w f.1, f.0.0), omega (arith, paid, f.0.1), f.0.2)
stops stop.NotRead script at a b m left now p h is app sent w paid =
    let f = w.stops in
    (at, (w.part, heard_at script at a b m stop.NotRead left now p h is app sent w f.1, f.0.0), omega (arith, paid, f.0.1))
stops stop.Spent script at a b m left now p h is app sent w paid =
    let f = w.stops in
    ((w.part, heard_at script at a b m stop.Spent left now p h is app sent w f.1, f.0.0), omega (arith, paid, f.0.1))
stops (stop.Strange kind) script at a b m left now p h is app sent w paid =
    let f = w.stops in
    (w.part, heard_at script at a b m (stop.Strange kind) left now p h is app sent w f.1, f.0.0, f.0.1)
stops stop.NotSent script at a b m left now p h is app sent w paid = absurd ((w.stops).0)
stops stop.NotPrinted script at a b m left now p h is app sent w paid = unprinted script at a b m left now p h is app sent w

-- a message was sent only in part
pub half_sent : (script : List Sending) (at : ℕ) (a b : Said) (m : Sending) (left : Option (List ℕ)) → Progress script at a
    → at < length script → m ≡ get_or script at m → IsHalfSent m b → EndsAs (talked_at stop.NotSent at) script (and_then a b) left
half_sent script at a b m left p h is half =
    let text : List ℕ = spell_message m.head m.list in
    let k : ℕ = length (drop (at + 1) script) in
    let read : a.read ++ b.read ≡ spell_exchanges p.done = ap (λ (x : List ℕ). a.read ++ x) half.read ∙ append-nil a.read ∙ p.read in
    let lines : heard (length script) (spell_exchanges p.done) ≡ lines_of_exchanges p.done =
    ap (λ (n : ℕ). heard n (spell_exchanges p.done)) (waiting_count script at a p h)
    ∙ ap (heard (length p.done + suc k)) (sym (append-nil (spell_exchanges p.done)))
    ∙ heard_done p.done (suc k) [] p.known
    ∙ ap (λ (x : List ℕ). lines_of_exchanges p.done ++ x) (heard_part (suc k) [] refl)
    ∙ append-nil (lines_of_exchanges p.done) in
    record {
      done = p.done;
      next = m;
      later = drop (at + 1) script;
      answered = record { messages = split script at a m p h is; each = each_whole p.done p.known };
      read = read;
      missing = half.missing;
      sent = append_assoc a.sent b.sent half.missing ∙ ap (λ (x : List ℕ). a.sent ++ x) half.sent ∙ ap (λ (x : List ℕ). x ++ text) p.sent
          ∙ sym (flat_map_push (λ (x : Sending). spell_message x.head x.list) (messages_of p.done) m);
      some = half.some;
      few = omega (arith, ap (λ (x : List ℕ). length x) half.sent, length-append b.sent half.missing);
      printed = ap (λ (x : List ℕ). a.printed ++ x) half.printed ∙ append-nil a.printed ∙ p.printed ∙ sym lines ∙ ap (heard (length script)) (sym read);
    }

-- a talk stops at a message
pub stops_at : (s : Stop) (script : List Sending) (at : ℕ) (a b : Said) (m : Sending) (left : Option (List ℕ)) (now : ℕ) → Progress script at a
    → at < length script → m ≡ get_or script at m → app_of m < 2 ^ 16 → Exchanges (Err s) m b left now → now + length (a.read ++ b.read) ≡ talk_limit
    → EndsAs (talked_at s at) script (and_then a b) left
stops_at stop.NotSent script at a b m left now p h is app e paid = half_sent script at a b m left p h is e
stops_at stop.Ended script at a b m left now p h is app e paid = stops stop.Ended script at a b m left now p h is app e.sent e.hears paid
stops_at stop.NotRead script at a b m left now p h is app e paid = stops stop.NotRead script at a b m left now p h is app e.sent e.hears paid
stops_at stop.Spent script at a b m left now p h is app e paid = stops stop.Spent script at a b m left now p h is app e.sent e.hears paid
stops_at (stop.Strange kind) script at a b m left now p h is app e paid = stops (stop.Strange kind) script at a b m left now p h is app e.sent e.hears paid
stops_at stop.NotPrinted script at a b m left now p h is app e paid = stops stop.NotPrinted script at a b m left now p h is app e.sent e.hears paid
