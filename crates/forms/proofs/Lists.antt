-- Pieces read one after another.
use Rattle.std.proofs.Common.{◌≡◌, ℕ, ◌+◌, ◌-◌, ◌<◌, ◌≤◌, ◌⊎◌, List, [], ◌∷◌, ◌++◌, length, get_or, take, drop, codes, sym, refl, ap, ◌∙◌, subst, inl, inr, append_assoc, arith, length-append, length-drop, length-take}
use Rattle.std.specs.List.{flat_map, AllByRecursion}
use Rattle.std.proofs.lemmas.Bool.{cases_lt}
use Rattle.std.proofs.lemmas.List.{take_all, take-append-le, length-take-le, flat_map_more}
use Rattle.std.proofs.ByRecursion.{All-push}
use Rattle.forms.specs.Forms.{feed, listed}
use Rattle.forms.specs.Pieces.{Ends, Told, Kept}

abbrev pub shut : List ℕ
shut = codes "))" ++ feed

abbrev pub spaced : {X : Type 0} → (X → List ℕ) → List X → List ℕ
spaced write xs = flat_map (λ x. 32 ∷ write x) xs

pub shorter : (rest word next : List ℕ) → 0 < length rest → take (length rest - 1) (drop 1 rest) ≡ word ++ next → length next < length rest
shorter rest word next h e = omega (arith, simp (length-append, length-take, length-drop) at (ap length e))

not_space : (rest after : List ℕ) → rest ≡ 32 ∷ after → rest ≡ shut → ⊥
not_space rest after e r = let z : ◌≡◌ {A = ℕ} 32 41 = ap (λ l. get_or l 0 0) (sym e ∙ r) in omega arith

-- the first of what was kept and one more are the first of what was read
pub first_more : {X : Type 0} (room : ℕ) (seen : List X) (x : X) → take room (take room seen ++ x ∷ []) ≡ take room (seen ++ x ∷ [])
first_more room seen x =
    elim (cases_lt (length seen) room) [
      | inl short ↦ ap (λ l. take room (l ++ x ∷ [])) (take_all room seen (omega arith))
      | inr long ↦
          let full : length (take room seen) ≡ room = length-take-le room seen long in
          take-append-le room (take room seen) (x ∷ []) (omega (arith, full))
          ∙ take_all room (take room seen) (omega (arith, full))
          ∙ sym (take-append-le room seen (x ∷ []) long)
    ]

module _ {X : Type 0} (write : X → List ℕ) (lawful : X → Type 0) where
  pub ends_spaced : (us : List X) (r : List ℕ) → Ends r → Ends (spaced write us ++ r)
  ends_spaced [] r e = e
  ends_spaced (u ∷ us) r e = inl refl

  -- what has been read, and how much of it is kept
  pub record Got (room : ℕ) (text : List ℕ) (kept : List X) (rest : List ℕ) : Type 0 where
    pub seen : List X
    pub so_far : text ≡ spaced write seen ++ rest
    pub all_lawful : AllByRecursion lawful seen
    pub ends : 0 < length seen → Ends rest
    pub front : kept ≡ take room seen

  pub got_none : (room : ℕ) (text : List ℕ) (kept : List X) → kept ≡ [] → Got room text kept text
  got_none room text kept none = record { seen = []; so_far = refl; all_lawful = tt; ends = λ h. absurd (omega arith); front = none ∙ sym (take_all room [] (omega arith)) }

  -- one piece more
  more_text :
      (text rest after next : List ℕ) (seen : List X) (x : X) → text ≡ spaced write seen ++ rest → rest ≡ 32 ∷ after → after ≡ write x ++ next
      → text ≡ spaced write (seen ++ x ∷ []) ++ next
  more_text text rest after next seen x g e t =
      g ∙ ap (λ l. spaced write seen ++ l) (e ∙ ap (λ l. 32 ∷ l) t)
      ∙ sym (append_assoc (spaced write seen) (32 ∷ write x) next)
      ∙ ap (λ l. l ++ next) (flat_map_more (λ y. 32 ∷ write y) [] seen x)

  pub got_more :
      (room : ℕ) (text rest after next : List ℕ) (kept kept' : List X) (x : X) → Got room text kept rest → rest ≡ 32 ∷ after
      → (after ≡ write x ++ next) × lawful x × Ends next → kept' ≡ take room (kept ++ x ∷ []) → Got room text kept' next
  got_more room text rest after next kept kept' x g e t is =
      let seen = g.seen in
      record {
        seen = seen ++ x ∷ [];
        so_far = more_text text rest after next seen x g.so_far e t.0;
        all_lawful = All-push lawful seen x g.all_lawful t.1;
        ends = λ _. t.2;
        front = is ∙ ap (λ l. take room (l ++ x ∷ [])) g.front ∙ first_more room seen x;
      }

  -- if a text goes on after some pieces, any list of pieces that it writes begins with them
  pub begins :
      (told : Told write lawful) (ps qs : List X) (r : List ℕ) → AllByRecursion lawful ps → AllByRecursion lawful qs → (0 < length ps → Ends r)
      → spaced write ps ++ r ≡ spaced write qs ++ shut → (us : List X) × (qs ≡ ps ++ us) × (r ≡ spaced write us ++ shut)
  begins told [] qs r fp fq er e = (qs, refl, e)
  begins told (p ∷ ps) [] r fp fq er e = let z : ◌≡◌ {A = ℕ} 32 41 = ap (λ l. get_or l 0 0) e in absurd (omega arith)
  begins told (p ∷ ps) (q ∷ qs) r fp fq er e =
      let split : write p ++ (spaced write ps ++ r) ≡ write q ++ (spaced write qs ++ shut) =
      sym (append_assoc (write p) (spaced write ps) r) ∙ ap (drop 1) e ∙ append_assoc (write q) (spaced write qs) shut in
      let t = told p q (spaced write ps ++ r) (spaced write qs ++ shut) fp.0 fq.0 (ends_spaced ps r (er (omega arith))) (ends_spaced qs shut (inr refl)) split in
      let m = begins told ps qs r fp.1 fq.1 (λ _. er (omega arith)) t.1 in
      let same : p ≡ q = t.0 in
      let more : qs ≡ ps ++ m.0 = m.1 in
      (m.0, cc, m.2)

  all_second : (ps us : List X) → AllByRecursion lawful (ps ++ us) → AllByRecursion lawful us
  all_second [] us f = f
  all_second (p ∷ ps) us f = all_second ps us f.1

  next_is :
      (rest after : List ℕ) (us : List X) → rest ≡ 32 ∷ after → AllByRecursion lawful us → rest ≡ spaced write us ++ shut
      → ((x : X) (s : List ℕ) → lawful x → Ends s → after ≡ write x ++ s → ⊥) → ⊥
  next_is rest after [] e f r none = not_space rest after e r
  next_is rest after (u ∷ us) e f r none =
      none u (spaced write us ++ shut) f.0 (ends_spaced us shut (inr refl)) (ap (drop 1) (sym e ∙ r) ∙ append_assoc (write u) (spaced write us) shut)

  -- no list has a piece where none stands
  pub no_next :
      (told : Told write lawful) (room : ℕ) (text rest after : List ℕ) (kept : List X) → Got room text kept rest → rest ≡ 32 ∷ after
      → ((x : X) (s : List ℕ) → lawful x → Ends s → after ≡ write x ++ s → ⊥) → (xs : List X) → AllByRecursion lawful xs → 1 ≤ length xs → text ≡ listed write xs → ⊥
  no_next told room text rest after kept g e none xs f some h =
      let m = begins told g.seen xs rest g.all_lawful f g.ends (sym g.so_far ∙ h) in
      next_is rest after m.0 e (all_second g.seen m.0 (subst (AllByRecursion lawful) m.1 f)) m.2 none

  over :
      (rest : List ℕ) (n : ℕ) (xs : List X) → (get_or rest 0 0 ≡ 32 → ⊥) → (n ≡ 0) ⊎ (rest ≡ shut → ⊥) → 1 ≤ length xs
      → (us : List X) → rest ≡ spaced write us ++ shut → length xs ≡ n + length us → ⊥
  over rest n xs ns (inl z) some [] r l = omega arith
  over rest n xs ns (inr no-shut) some [] r l = no-shut r
  over rest n xs ns bad some (u ∷ us) r l = ns (ap (λ l. get_or l 0 0) r)

  none_seen : (room : ℕ) (text rest : List ℕ) (kept : List X) → (g : Got room text kept rest) → 1 ≤ room → (length kept ≡ 0) ⊎ (rest ≡ shut → ⊥) → (length g.seen ≡ 0) ⊎ (rest ≡ shut → ⊥)
  none_seen room text rest kept g some (inl z) = inl (omega (arith, ap length g.front, length-take room g.seen))
  none_seen room text rest kept g some (inr no-shut) = inr no-shut

  -- nor does one end where there is no space and not the end
  pub no_end_here :
      (told : Told write lawful) (room : ℕ) (text rest : List ℕ) (kept : List X) → Got room text kept rest → 1 ≤ room → (get_or rest 0 0 ≡ 32 → ⊥)
      → (length kept ≡ 0) ⊎ (rest ≡ shut → ⊥) → (xs : List X) → AllByRecursion lawful xs → 1 ≤ length xs → text ≡ listed write xs → ⊥
  no_end_here told room text rest kept g some-room ns bad xs f some h =
      let m = begins told g.seen xs rest g.all_lawful f g.ends (sym g.so_far ∙ h) in
      over rest (length g.seen) xs ns (none_seen room text rest kept g some-room bad) some m.0 m.2 (ap length m.1 ∙ length-append g.seen m.0)

  pub all_read : (room : ℕ) (text rest : List ℕ) (kept : List X) → Got room text kept rest → 0 < length kept → rest ≡ shut → Kept write lawful room text kept
  all_read room text rest kept g some e =
      record {
        pieces = g.seen;
        text_is = g.so_far ∙ ap (λ l. spaced write g.seen ++ l) e;
        all_lawful = g.all_lawful;
        some = omega (arith, ap length g.front, length-take room g.seen);
        front = g.front;
      }
