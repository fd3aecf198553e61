-- One call more of a run.
use Rattle.std.proofs.Common.{◌≡◌, ℕ, ◌+◌, ◌<◌, List, [], ◌∷◌, ◌++◌, map, length, get_or, take, set, sym, refl, ap, ◌∙◌, subst, ap₂}
use Rattle.std.proofs.lemmas.List.{take_more, take_more_set, map_push}
use Rattle.channel.specs.Meaning.{Meaning}
use Rattle.burst.specs.declared.place.Place.{Place}
use Rattle.receiver.specs.Standing.{Standing, standing, new_standing}
use Rattle.receiver.specs.declared.inner.Burst.{Burst}
use Rattle.runs.specs.Calls.{Reply, after, answer, written}
use Rattle.runs.specs.Obeying.{Obeyed, Ran, Hears}
use Rattle.runs.specs.Runs.{ends, answers_to, bytes_after, given}
use Rattle.runs.specs.declared.call.Call.{Call}
use Rattle.runs.specs.declared.call.Call.TheVariants.{Add, Depth}
use Rattle.runs.specs.declared.call.Heard.{Heard}

pub ends_append : (m : Meaning) (xs ys : List Call) (s : Standing) → ends m (xs ++ ys) s ≡ ends m ys (ends m xs s)
ends_append m [] ys s = refl
ends_append m (x ∷ xs) ys s = ends_append m xs ys (after m x s)

pub answers_append : (m : Meaning) (xs ys : List Call) (s : Standing) (bytes : List ℕ)
    → answers_to m (xs ++ ys) s bytes ≡ answers_to m xs s bytes ++ answers_to m ys (ends m xs s) (bytes_after m xs s bytes)
answers_append m [] ys s bytes = refl
answers_append m (x ∷ xs) ys s bytes = ap (λ (rest : List Reply). answer m x s bytes ∷ rest) (answers_append m xs ys (after m x s) (written m x s bytes))

pub bytes_append : (m : Meaning) (xs ys : List Call) (s : Standing) (bytes : List ℕ)
    → bytes_after m (xs ++ ys) s bytes ≡ bytes_after m ys (ends m xs s) (bytes_after m xs s bytes)
bytes_append m [] ys s bytes = refl
bytes_append m (x ∷ xs) ys s bytes = bytes_append m xs ys (after m x s) (written m x s bytes)

-- a run and one call more
pub ran_more : (m : Meaning) (calls : List Call) (call : Call) (b b₁ b₂ : Burst) → Ran m calls b b₁ → standing b₂ ≡ after m call (standing b₁) → Ran m (calls ++ (call ∷ [])) b b₂
ran_more m calls call b b₁ b₂ ran stands = stands ∙ ap (after m call) ran ∙ sym (ends_append m calls (call ∷ []) (standing b))

-- the next call of a list
pub ran_next : (m : Meaning) (calls : List Call) (i : ℕ) (call : Call) → call ≡ get_or calls i call → i < length calls → (b b₁ b₂ : Burst)
    → Ran m (take i calls) b b₁ → Ran m (call ∷ []) b₁ b₂ → Ran m (take (i + 1) calls) b b₂
ran_next m calls i call is lt b b₁ b₂ ran next =
    let more : take (i + 1) calls ≡ take i calls ++ (call ∷ []) = take_more calls i call lt ∙ ap (λ (x : Call). take i calls ++ (x ∷ [])) (sym is) in
    subst (λ (xs : List Call). Ran m xs b b₂) (sym more) (ran_more m (take i calls) call b b₁ b₂ ran next)

-- the next place of a list
pub added_next : (m : Meaning) (places : List Place) (i : ℕ) (p : Place) → p ≡ get_or places i p → i < length places → (b b₁ b₂ : Burst)
    → Ran m (map Add (take i places)) b b₁ → Ran m (Add p ∷ []) b₁ b₂ → Ran m (map Add (take (i + 1) places)) b b₂
added_next m places i p is lt b b₁ b₂ ran next =
    let more : map Add (take (i + 1) places) ≡ map Add (take i places) ++ (Add p ∷ []) =
    ap (map Add) (take_more places i p lt) ∙ map_push Add (take i places) (get_or places i p) ∙ ap (λ (x : Place). map Add (take i places) ++ (Add x ∷ [])) (sym is) in
    subst (λ (xs : List Call). Ran m xs b b₂) (sym more)
    (ran_more m (map Add (take i places)) (Add p) b b₁ b₂ ran next)

-- a new burst that is given a depth and places
pub given_by : (m : Meaning) (s : Standing) (places : List Place) (b₁ b₂ b₃ : Burst) → standing b₁ ≡ new_standing m → Ran m (Depth s.depth ∷ []) b₁ b₂
    → places ≡ s.places → Ran m (map Add places) b₂ b₃ → standing b₃ ≡ given m s
given_by m s places b₁ b₂ b₃ new deep are all =
    all
    ∙ ap (λ (ps : List Place). ends m (map Add ps) (standing b₂)) are
    ∙ ap (ends m (map Add s.places)) (deep ∙ ap (after m (Depth s.depth)) new)

-- the answers written down so far and one more
pub said_more : (part : Heard → Reply) (heard : List Heard) (i : ℕ) (h : Heard) → i < length heard
    → map part (take (i + 1) (set heard i h)) ≡ map part (take i heard) ++ (part h ∷ [])
said_more part heard i h lt = ap (map part) (take_more_set heard i h lt) ∙ map_push part (take i heard) h

-- one call more is heard
pub hears_next : (m : Meaning) (calls : List Call) (i : ℕ) (call : Call) → call ≡ get_or calls i call → i < length calls → (b b₁ b₂ : Burst) (bytes bytes₁ bytes₂ : List ℕ)
    (said said' : List Reply) (r : Reply) → said' ≡ said ++ (r ∷ []) → Hears m (take i calls) b b₁ bytes bytes₁ said → Obeyed m call b₁ b₂ bytes₁ bytes₂ r
    → Hears m (take (i + 1) calls) b b₂ bytes bytes₂ said'
hears_next m calls i call is lt b b₁ b₂ bytes bytes₁ bytes₂ said said' r more' hears obeyed =
    let before : List Call = take i calls in
    let more : take (i + 1) calls ≡ before ++ (call ∷ []) = take_more calls i call lt ∙ ap (λ (x : Call). before ++ (x ∷ [])) (sym is) in
    subst (λ (xs : List Call). Hears m xs b b₂ bytes bytes₂ said') (sym more)
    (record {
      stands = obeyed.stands ∙ ap (after m call) hears.stands ∙ sym (ends_append m before (call ∷ []) (standing b));
      answers =
          more'
          ∙ ap₂ (λ (xs : List Reply) (x : Reply). xs ++ (x ∷ [])) hears.answers (obeyed.answers ∙ ap₂ (answer m call) hears.stands hears.writes)
          ∙ sym (answers_append m before (call ∷ []) (standing b) bytes);
      writes = obeyed.writes ∙ ap₂ (written m call) hears.stands hears.writes ∙ sym (bytes_append m before (call ∷ []) (standing b) bytes);
    })
