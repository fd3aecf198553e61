-- What reading and writing of texts have to do with each other.
use Rattle.std.specs.Prelude.{◌≡◌, ℕ, ◌⊎◌, List, ◌++◌, Ok}
use Rattle.channel.specs.Meaning.{Meaning}
use Rattle.channel.specs.declared.Channel.{Ghosts}
use Rattle.receiver.specs.Bursts.{places_of}
use Rattle.receiver.specs.Sound.{Sound}
use Rattle.receiver.specs.declared.receiver.Receiver.{Receiver}
use Rattle.forms.specs.Forms.{Form, text_of}
use Rattle.kinds.specs.Rules.{Rule}
use Rattle.reading.specs.Received.{state_of}
use Rattle.reading.specs.Texts.{ReadsText}
use Rattle.writing.specs.Written.{of_depth, places_text, receiver_text}

-- A written text reads back as the same channel, depth and places.
abbrev pub ReadsBack : {C : Type 0} {G : Ghosts C} → Rule → (C → Form) → Meaning → Receiver C G → Type 0
ReadsBack k form m w = Sound m w.burst → ReadsText k (receiver_text form k.symbols w) (Ok (state_of form w))

-- the text of a receiver, but that the depth line comes first
abbrev pub depth_first : {C : Type 0} {G : Ghosts C} → (C → Form) → ℕ → Receiver C G → List ℕ
depth_first form symbols w = text_of (of_depth w.burst.depth) ++ (text_of (form w.channel) ++ places_text symbols (places_of w.burst))

-- An accepted text is written again unchanged, but that the channel line comes first.
abbrev pub WrittenAgain : {C : Type 0} {G : Ghosts C} → Rule → (C → Form) → Receiver C G → List ℕ → Type 0
WrittenAgain k form w text =
    ReadsText k text (Ok (state_of form w)) → (text ≡ receiver_text form k.symbols w) ⊎ (text ≡ depth_first form k.symbols w)
