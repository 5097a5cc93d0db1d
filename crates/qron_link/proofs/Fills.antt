-- A room that is filled piece by piece.
use Rattle.std.proofs.Common.{◌≡◌, ℕ, ◌+◌, ◌-◌, ◌≤◌, List, ◌++◌, length, take, drop, Option, sym, ap, ◌∙◌, arith, length-append}
use Rattle.std.proofs.lemmas.List.{length-take-le, take-append-le, take_rest}
use Rattle.std.proofs.Math.Seq.{take-append-add, take-add}
use borrow.Rule.Slice.PartMut.{put_mid, post_of}
use Rattle.qron_link.specs.Outside.{WasRead, WasWritten}
use Rattle.qron_link.proofs.Known.{read_on, written_on}
use Rattle.qron_link.specs.Transfers.{Took, Filling}

-- what stands in front after a piece
take_more_filled : (room piece : List ℕ) (have most n : ℕ) → have ≤ length room → n ≤ length piece
    → take (have + n) (put_mid have most room piece) ≡ take have room ++ take n piece
take_more_filled room piece have most n h k =
    let size : length (take have room) ≡ have = length-take-le have room h in
    let behind = post_of have most room in
    ap (λ m. take (m + n) (take have room ++ (piece ++ behind))) (sym size)
    ∙ take-append-add (take have room) (piece ++ behind) n
    ∙ ap (λ x. take have room ++ x) (take-append-le n piece behind k)

pub more_filled : (old mid new : Option (List ℕ)) (before now : ℕ) (room piece : List ℕ) (have most n : ℕ)
    → Filling old mid before now room have → have + most ≤ length room → length piece ≡ most → n ≤ most → n ≤ now
    → WasRead mid (take n piece) new
    → Filling old new before (now - n) (put_mid have most room piece) (have + n)
more_filled old mid new before now room piece have most n f fits size few paid read =
    let front = take_more_filled room piece have most n f.in_room (omega arith) in
    let some : length (take n piece) ≡ n = length-take-le n piece (omega arith) in
    let had : length (take have room) ≡ have = length-take-le have room f.in_room in
    record {
      in_room = omega (arith, length-append (take have room) (piece ++ post_of have most room), length-append piece (post_of have most room));
      took = record {
        read = rw front (read_on old mid new (take have room) (take n piece) f.took.read read);
        paid = rw front (omega (arith, length-append (take have room) (take n piece), f.took.paid));
      };
    }

-- one read after another
pub took_on : (a b c : Option (List ℕ)) (before mid now : ℕ) (x y : List ℕ) → Took a b before mid x → Took b c mid now y → Took a c before now (x ++ y)
took_on a b c before mid now x y f g = record {
  read = read_on a b c x y f.read g.read;
  paid = omega (arith, length-append x y, f.paid, g.paid);
}

-- one write after another, of what is left of a piece
pub sent_more : (a b c : Option (List ℕ)) (piece : List ℕ) (done n : ℕ) → WasWritten a (take done piece) b
    → WasWritten b (take n (take (length piece - done) (drop done piece))) c → WasWritten a (take (done + n) piece) c
sent_more a b c piece done n f g =
    rw (take-add done n piece) (written_on a b c (take done piece) (take n (drop done piece)) f (rw (take_rest piece done) at g))
