-- When a receiver did what a call says, and what a list of calls says.
use Rattle.std.specs.Prelude.{◌≡◌, ℕ, List}
use Rattle.channel.specs.Meaning.{Meaning}
use Rattle.receiver.specs.Standing.{standing}
use Rattle.receiver.specs.declared.inner.Burst.{Burst}
use Rattle.runs.specs.Calls.{Reply, after, answer, written}
use Rattle.runs.specs.Runs.{ends, answers_to, bytes_after}
use Rattle.runs.specs.declared.call.Call.{Call}

-- What stands, the answer and the bytes are those of the definitions.
pub record Obeyed (m : Meaning) (call : Call) (before after' : Burst) (bytes bytes' : List ℕ) (told : Reply) : Type 0 where
  pub stands : standing after' ≡ after m call (standing before)
  pub answers : told ≡ answer m call (standing before) bytes
  pub writes : bytes' ≡ written m call (standing before) bytes

-- What stands after all of the calls.
abbrev pub Ran : Meaning → List Call → Burst → Burst → Type 0
Ran m calls before after' = standing after' ≡ ends m calls (standing before)

-- After all of them, with what was said and written.
pub record Hears (m : Meaning) (calls : List Call) (before after' : Burst) (bytes bytes' : List ℕ) (said : List Reply) : Type 0 where
  pub stands : standing after' ≡ ends m calls (standing before)
  pub answers : said ≡ answers_to m calls (standing before) bytes
  pub writes : bytes' ≡ bytes_after m calls (standing before) bytes
