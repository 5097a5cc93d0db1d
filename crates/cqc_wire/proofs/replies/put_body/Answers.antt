use Rattle.std.proofs.Common.{◌≡◌, List, ℕ, ◌++◌, refl, subst}
use Rattle.cqc_model.specs.Wire.{reply_body}
use Rattle.cqc_wire.specs.Room.{WasPut}
use Rattle.cqc_wire.proofs.Rooms.{put_on}
use Rattle.cqc_wire.proofs.replies.put_body.Goals as goal

pub returns-in-Pair : goal.returns-in-Pair
returns-in-Pair c =
    let text : c.to_be_bytes.result ++ c.pair_bytes.result ≡ reply_body c.args.reply.now = rw (c.to_be_bytes.ensures, c.pair_bytes.ensures, c.in-Pair.is) refl in
    subst (λ (x : List ℕ). WasPut c.args.out.now c.put-in-Pair.new.out c.args.at x c.put-in-Pair.result) text
    (put_on c.args.out.now _ _ c.args.at _ _ _ _ c.put-at.ensures c.put-in-Pair.ensures)
