use Rattle.std.proofs.Common.{arith, refl}
use Rattle.amplitude_register.proofs.Fields.{kept_one, one_weighed, distinct_none}
use Rattle.amplitude_register.proofs.register.Register.new.Goals as goal

pub invariant_of-result : goal.invariant_of-result
invariant_of-result c =
    record {
      some = c.requires.some;
      most = c.requires.most;
      value = record { rows = refl; count = omega arith; room = omega (arith, c.write_one.ensures.room, c.in_ok-one.ensures.len, c.in_ok-one.one.ok.0, c.rows_of-room.ensures); numbers = refl; distinct = distinct_none };
      next = record { rows = refl; count = omega arith; room = omega (arith, c.in_ok-two.ensures.len, c.in_ok-two.two.ok.0, c.rows_of-room.ensures); numbers = refl; distinct = distinct_none };
      weighed = one_weighed _ c.write_one.ensures.written;
      kept = kept_one _ c.write_one.ensures.written;
      stage = tt;
    }
