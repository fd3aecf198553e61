-- The text of a fault.
use Rattle.std.specs.Prelude.{ℕ, List, ◌++◌, codes, decimal}
use Rattle.text.specs.Faults.{layer_of, number_of}
use Rattle.text.specs.declared.fault.Fault.{Fault}
use Rattle.text.specs.declared.fault.Layer.{Layer}
use Rattle.text.specs.declared.fault.Layer.TheVariants.{Text, Channel, Receiver}

abbrev pub layer_text : Layer → List ℕ
layer_text Text = codes "text"
layer_text Channel = codes "channel"
layer_text Receiver = codes "receiver"

abbrev pub fault_text : Fault → List ℕ
fault_text e =
    codes "(fault (line " ++ (decimal e.line ++ (codes ") (from " ++ (layer_text (layer_of e.cause) ++ (codes ") (number " ++ (decimal (number_of e.cause) ++ codes "))")))))
