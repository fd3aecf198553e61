-- What each call makes of what stands, and what it answers, by the definitions that the contracts of the calls use.
use Rattle.std.specs.Prelude.{ℕ, ◌+◌, ◌-◌, cond, List, ◌++◌, length, drop, Some, None, Ok, Err, Option, Result, ◌==◌, slice_index}
use Rattle.cost.specs.declared.Cost.{Cost}
use Rattle.cost.specs.declared.Cost.TheVariants.{Eighths, Barred}
use Rattle.channel.specs.Meaning.{Meaning}
use Rattle.burst.specs.declared.refusal.Refusal.{Refusal}
use Rattle.burst.specs.declared.refusal.Refusal.TheVariants.{TooMany, NotTaken, BadPriors, NoPlace, BadDepth, NoValue, Stale, NoBest, TooShort}
use Rattle.cost.specs.Leans.{lean_of}
use Rattle.recursions.specs.Answers.{value_cost, best, shown}
use Rattle.receiver.specs.Standing.{Standing, add_refusal, added, retake_refusal, retaken, reweigh_refusal, reweighed, cut_refusal, shortened, depth_refusal, deepened, settled, full_depth, cost_refusal, symbol_refusal, shown_refusal}
use Rattle.receiver.specs.declared.inner.Marks.{Marks}
use Rattle.runs.specs.declared.call.Answer.{Answer}
use Rattle.runs.specs.declared.call.Answer.TheVariants as answers
use Rattle.runs.specs.declared.call.Call.{Call}
use Rattle.runs.specs.declared.call.Call.TheVariants as calls

-- the refusal that has a number
abbrev pub refusal_of : ℕ → Refusal
refusal_of n =
    cond (n == 3) TooMany (cond (n == 4) NotTaken (cond (n == 5) BadPriors (cond (n == 6) NoPlace (cond (n == 7) BadDepth (cond (n == 8) NoValue
    (cond (n == 9) Stale (cond (n == 10) NoBest TooShort)))))))

-- what is, unless a number refuses it
abbrev pub unless : {X : Type 0} → Option ℕ → X → X → X
unless None is otherwise = is
unless (Some n) is otherwise = otherwise

-- what a call is answered: an answer, or why it is refused
abbrev pub Reply : Type 0
Reply = Result Answer Refusal

-- the answer, unless a number refuses it
abbrev pub replied : Option ℕ → Answer → Reply
replied None told = Ok told
replied (Some n) told = Err (refusal_of n)

abbrev pub marks_of : Standing → Marks
marks_of s = record { forward = s.forward; backward = s.backward }

-- how many columns are stale
abbrev pub stale_columns : Standing → ℕ
stale_columns s = length s.places - s.forward + s.backward

-- a best that is barred is none
abbrev pub best_told : Cost → Option ℕ
best_told Barred = None
best_told (Eighths n) = Some n

-- the best where s stands
abbrev pub best_at : Meaning → Standing → Cost
best_at m s = best m s.depth s.places

-- the cost of value a at place k
abbrev pub cost_at : Meaning → Standing → ℕ → ℕ → Cost
cost_at m s k a = value_cost m s.depth s.places k a

-- the shown sequence
abbrev pub shown_at : Meaning → Standing → List ℕ
shown_at m s = shown m s.depth s.places

-- what the readings are refused by
abbrev pub cost_refused : Meaning → Standing → ℕ → ℕ → Option ℕ
cost_refused m s k a = cost_refusal m (length s.places) (marks_of s) k a

abbrev pub symbol_refused : Meaning → Standing → ℕ → Option ℕ
symbol_refused m s k = symbol_refusal (length s.places) (marks_of s) (best_at m s) k

abbrev pub shown_refused : Meaning → Standing → List ℕ → Option ℕ
shown_refused m s bytes = shown_refusal (length s.places) (marks_of s) (best_at m s) (length bytes)

-- What stands after a call. Refused calls and readings do nothing.
abbrev pub after : Meaning → Call → Standing → Standing
after m (calls.Add p) s = unless (add_refusal m (length s.places) p) (added s p) s
after m (calls.Retake k z) s = unless (retake_refusal m (length s.places) k z) (retaken (full_depth m s.depth) s k z) s
after m (calls.Reweigh k priors) s = unless (reweigh_refusal m (length s.places) k priors) (reweighed (full_depth m s.depth) s k priors) s
after m (calls.Cut n) s = unless (cut_refusal (length s.places) n) (shortened s n) s
after m (calls.Depth q) s = unless (depth_refusal m q) (deepened s q) s
after m calls.Settle s = settled s
after m (calls.Cost k a) s = s
after m (calls.Lean k a) s = s
after m (calls.Symbol k) s = s
after m calls.Shown s = s
after m calls.Marks s = s

-- What it answers, with a list of bytes.
abbrev pub answer : Meaning → Call → Standing → List ℕ → Reply
answer m (calls.Add p) s bytes = replied (add_refusal m (length s.places) p) answers.Done
answer m (calls.Retake k z) s bytes = replied (retake_refusal m (length s.places) k z) answers.Done
answer m (calls.Reweigh k priors) s bytes = replied (reweigh_refusal m (length s.places) k priors) answers.Done
answer m (calls.Cut n) s bytes = replied (cut_refusal (length s.places) n) answers.Done
answer m (calls.Depth q) s bytes = replied (depth_refusal m q) answers.Done
answer m calls.Settle s bytes = Ok (answers.Settled (record { columns = stale_columns s; best = best_told (best_at m s) }))
answer m (calls.Cost k a) s bytes = replied (cost_refused m s k a) (answers.Cost (cost_at m s k a))
answer m (calls.Lean k a) s bytes = replied (cost_refused m s k a) (answers.Lean (lean_of (cost_at m s k 0) (cost_at m s k a)))
answer m (calls.Symbol k) s bytes = replied (symbol_refused m s k) (answers.Symbol (slice_index (shown_at m s) k))
answer m calls.Shown s bytes = replied (shown_refused m s bytes) answers.Done
answer m calls.Marks s bytes = Ok (answers.Marks (marks_of s))

-- What it leaves in the list: shown writes the sequence at the front, and no other call writes.
abbrev pub written : Meaning → Call → Standing → List ℕ → List ℕ
written m (calls.Add p) s bytes = bytes
written m (calls.Retake k z) s bytes = bytes
written m (calls.Reweigh k priors) s bytes = bytes
written m (calls.Cut n) s bytes = bytes
written m (calls.Depth q) s bytes = bytes
written m calls.Settle s bytes = bytes
written m (calls.Cost k a) s bytes = bytes
written m (calls.Lean k a) s bytes = bytes
written m (calls.Symbol k) s bytes = bytes
written m calls.Shown s bytes = unless (shown_refused m s bytes) (shown_at m s ++ drop (length s.places) bytes) bytes
written m calls.Marks s bytes = bytes
