-- The forms that are written of depths and places, and the text of a receiver.
use Rattle.std.specs.Prelude.{ℕ, cond, List, ◌++◌, map, take, pos, ◌==◌}
use Rattle.std.specs.List.{flat_map}
use Rattle.burst.specs.declared.place.Place.{Place}
use Rattle.channel.specs.declared.Channel.{Ghosts}
use Rattle.receiver.specs.Bursts.{places_of}
use Rattle.receiver.specs.declared.receiver.Receiver.{Receiver}
use Rattle.forms.specs.Forms.{Form, depth_form, place_form, text_of}
use Rattle.forms.specs.declared.prior.Prior.{Prior}
use Rattle.forms.specs.declared.prior.Prior.TheVariants.{Number, Barred}

abbrev pub of_depth : ℕ → Form
of_depth depth = depth_form (pos depth)

-- a prior of 65,535 is barred
abbrev pub of_prior : ℕ → Prior
of_prior n = cond (n == 65535) Barred (Number (pos n))

-- a place with the priors of the first so many values
abbrev pub of_place : ℕ → Place → Form
of_place values p = place_form p.sample.first p.sample.second (map of_prior (take values p.priors.numbers))

-- the lines of places
abbrev pub places_text : ℕ → List Place → List ℕ
places_text values places = flat_map (λ p. text_of (of_place values p)) places

-- The text of a receiver: its channel line, its depth line, and a line for each place with a prior for each symbol value.
abbrev pub receiver_text : {C : Type 0} {G : Ghosts C} → (C → Form) → ℕ → Receiver C G → List ℕ
receiver_text form symbols w = text_of (form w.channel) ++ (text_of (of_depth w.burst.depth) ++ places_text symbols (places_of w.burst))
