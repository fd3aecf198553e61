-- The layers and numbers of faults.
use Rattle.std.specs.Prelude.{ℕ}
use Rattle.channel.specs.Refusals as channel
use Rattle.burst.specs.Refusals as receiver
use Rattle.text.specs.declared.fault.Cause.{Cause}
use Rattle.text.specs.declared.fault.Cause.TheVariants.{Text as OfText, Channel as OfChannel, Receiver as OfReceiver}
use Rattle.text.specs.declared.fault.Fault.{Fault}
use Rattle.text.specs.declared.fault.Layer.{Layer}
use Rattle.text.specs.declared.fault.Layer.TheVariants.{Text, Channel, Receiver}
use Rattle.text.specs.declared.fault.Malformed.{Malformed}
use Rattle.text.specs.declared.fault.Malformed.TheVariants.{NotAForm, Heads, TooLong}

abbrev pub layer_of : Cause → Layer
layer_of (OfText why) = Text
layer_of (OfChannel refusal) = Channel
layer_of (OfReceiver refusal) = Receiver

abbrev pub malformed_number : Malformed → ℕ
malformed_number NotAForm = 12
malformed_number Heads = 13
malformed_number TooLong = 14

abbrev pub number_of : Cause → ℕ
number_of (OfText why) = malformed_number why
number_of (OfChannel refusal) = channel.number_of refusal
number_of (OfReceiver refusal) = receiver.number_of refusal

-- the fault with a cause at a line
abbrev pub fault_at : ℕ → Cause → Fault
fault_at line cause = record { line = line; cause = cause }
