-- Worked cases: the definitions compute them.
use Rattle.std.proofs.Common.{refl}
use Rattle.cqc_model.specs.Plan.{cut, commands}
use Rattle.network_model.specs.History.{is_error}
use Rattle.session_model.specs.Cases.{HelloIsAnswered, NewIsAnswered, ShortBody, RefusedMessages}

pub hello_is_answered : HelloIsAnswered
unfolding cut commands is_error
hello_is_answered = refl

pub new_is_answered : NewIsAnswered
unfolding cut commands is_error
new_is_answered = record { asked = refl; answered = refl }

pub short_body : ShortBody
unfolding cut commands is_error
short_body = refl

pub refused_messages : RefusedMessages
unfolding cut commands is_error
refused_messages = record { version = refl; get_time = refl; expire = refl; eleven = refl; action = refl; too_long = refl; long_enough = refl }
