-- The text of a form is one line, and a text is cut into lines in one way only.
use Rattle.std.proofs.Common.{◌≡◌, ℕ, zero, suc, ◌+◌, ◌<◌, ◌≤◌, Bool, true, false, not, ◌&&◌, cond, eqb, List, [], ◌∷◌, ◌++◌, length, get_or, take, drop, ℤ, codes, Some, None, sym, refl, ap, ◌∙◌, subst, inl, inr, append_assoc, arith, length-append}
use Rattle.std.specs.Prelude.{◌==◌, nat_lt, position}
use Rattle.std.specs.Int.{IsInRange}
use Rattle.std.specs.Fmt.{signed_decimal}
use Rattle.std.specs.List.{flat_map, AllByRecursion, position_or_len}
use Rattle.std.proofs.ByRecursion.{All-append, All-drop}
use Rattle.std.proofs.lemmas.List.Prefix.{front_rest}
use Rattle.std.proofs.lemmas.List.{take_more, take_all, append-nil, nil_from_length}
use Rattle.std.proofs.lemmas.List.Quantifiers.{position-Some}
use Rattle.std.proofs.lemmas.List.Sums.{fails_before_first}
use Rattle.std.proofs.lemmas.Bool.Decides.{nat_tests}
use Rattle.numerals.specs.Numbers.{SevenDigits}
use Rattle.numerals.proofs.Reading.{all_of_number}
use Rattle.table.specs.declared.entry.Entry.{Entry}
use Rattle.table.specs.declared.entry.Entry.TheVariants.{Barred as BarredEntry, Expected}
use Rattle.forms.specs.declared.head.Head.{Head}
use Rattle.forms.specs.declared.head.Head.TheVariants.{Taps, Table, Code, Depth, Place}
use Rattle.forms.specs.declared.prior.Prior.{Prior}
use Rattle.forms.specs.declared.prior.Prior.TheVariants.{Number, Barred}
use Rattle.forms.specs.Forms.{Form, taps_form, table_form, code_form, depth_form, place_form, prior_text, entry_text, feed, listed, opening, head_of, body_of, text_of, PriorLawful, EntryLawful, Lawful}
use Rattle.forms.proofs.Bodies.{same_form}
use Rattle.forms.specs.Words.{same_cut}
use Rattle.text.specs.Cutting.{NoFeed, WholeLine, FirstLine, CutsLine}

-- the bytes before a place where none is a line feed
no_feed_before : (text : List ℕ) (i : ℕ) → i ≤ length text → ((k : ℕ) → k < i → (get_or text k 0 == 10) ≡ false) → AllByRecursion NoFeed (take i text)
no_feed_before text zero h none = tt
no_feed_before [] (suc i) h none = absurd (omega arith)
no_feed_before (c ∷ text) (suc i) h none = (λ e. other c (none zero (omega arith)) e, no_feed_before text i (omega arith) (λ k l. none (suc k) (omega arith)))
  where
    other : (c : ℕ) → (c == 10) ≡ false → c ≡ 10 → ⊥
    other c h e = grind (arith, nat_tests)

-- the first line ends after the first line feed
pub feed_at : (text : List ℕ) (i : ℕ) → position (λ c. c == 10) text ≡ Some i → FirstLine (take (i + 1) text) (drop (i + 1) text)
feed_at text i e =
    let first = position-Some (λ c. c == 10) text i 0 e in
    inl (take i text, take_more text i 0 first.0 ∙ ap (λ (c : ℕ). take i text ++ c ∷ []) (is_feed (get_or text i 0) first.1), no_feed_before text i (omega (arith, first.0)) first.2)
  where
    is_feed : (c : ℕ) → (c == 10) ≡ true → c ≡ 10
    is_feed c h = grind (arith, nat_tests)

-- or there is none
pub no_feed_in : (text : List ℕ) → position (λ c. c == 10) text ≡ None → AllByRecursion NoFeed text
no_feed_in text e =
    let all : length text ≤ position_or_len (λ c. c == 10) text = past (nat_lt (position_or_len (λ c. c == 10) text) (length text)) refl e in
    subst (AllByRecursion NoFeed) (take_all (length text) text (omega arith))
    (no_feed_before text (length text) (omega arith) (λ k l. fails_before_first (λ c. c == 10) text k 0 (omega (arith, all))))
  where
    past : (b : Bool) → nat_lt (position_or_len (λ c. c == 10) text) (length text) ≡ b → cond b (Some (position_or_len (λ c. c == 10) text)) None ≡ None
        → length text ≤ position_or_len (λ c. c == 10) text
    past true lt e = let z : ◌≡◌ {A = ℕ} 0 1 = cc in absurd (omega arith)
    past false lt e = grind (arith, nat_tests)

-- two texts that begin with whole lines
pub same_line : (v w r s : List ℕ) → WholeLine v → WholeLine w → v ++ r ≡ w ++ s → (v ≡ w) × (r ≡ s)
same_line v w r s (x, ev, px) (y, ew, py) e =
    let t = same_cut NoFeed x y (10 ∷ r) (10 ∷ s) px py (λ p. p refl) (λ p. p refl)
    (sym (append_assoc x feed r) ∙ ap (λ l. l ++ r) (sym ev) ∙ e ∙ ap (λ l. l ++ s) ew ∙ append_assoc y feed s) in
    (ev ∙ ap (λ l. l ++ feed) t.0 ∙ sym ew, ap (drop 1) t.1)

-- by computation, for a literal
abbrev no_feed : List ℕ → Bool
no_feed [] = true
no_feed (c ∷ cs) = not (eqb c 10) && no_feed cs

first : (c : ℕ) (b : Bool) → (not (eqb c 10) && b) ≡ true → c ≡ 10 → ⊥
first c b h e = grind (arith, nat_tests)

later : (c : ℕ) (b : Bool) → (not (eqb c 10) && b) ≡ true → b ≡ true
later c b h = grind (arith, nat_tests)

plain : (bytes : List ℕ) → no_feed bytes ≡ true → AllByRecursion NoFeed bytes
plain [] h = tt
plain (c ∷ bytes) h = (λ e. first c (no_feed bytes) h e, plain bytes (later c (no_feed bytes) h))

digit : (c : ℕ) → IsInRange 48 57 c → NoFeed c
digit c d e = omega arith

number : (z : ℤ) → SevenDigits z → AllByRecursion NoFeed (signed_decimal z)
number = all_of_number NoFeed digit (λ e. omega arith)

prior : (p : Prior) → PriorLawful p → AllByRecursion NoFeed (prior_text p)
prior (Number z) h = number z h
prior Barred h = plain (codes "barred") refl

entry : (e : Entry) → EntryLawful e → AllByRecursion NoFeed (entry_text e)
entry BarredEntry h = plain (codes "barred") refl
entry (Expected a b) h =
    All-append NoFeed (codes "(") _ (plain (codes "(") refl) (All-append NoFeed (signed_decimal a) _ (number a h.0)
    (All-append NoFeed (codes " ") _ (plain (codes " ") refl) (All-append NoFeed (signed_decimal b) (codes ")") (number b h.1) (plain (codes ")") refl))))

-- bytes before a whole line
after : (v l : List ℕ) → AllByRecursion NoFeed v → WholeLine l → WholeLine (v ++ l)
after v l p (x, e, q) = (v ++ x, ap (λ k. v ++ k) e ∙ sym (append_assoc v x feed), All-append NoFeed v x p q)

pieces : {X : Type 0} (write : X → List ℕ) (lawful : X → Type 0) → ((x : X) → lawful x → AllByRecursion NoFeed (write x)) → (xs : List X) → AllByRecursion lawful xs → WholeLine (listed write xs)
pieces write lawful each [] h = (codes "))", refl, plain (codes "))") refl)
pieces write lawful each (x ∷ xs) h =
    let t = pieces write lawful each xs h.1 in
    let w = after (32 ∷ write x) (listed write xs) (λ e. omega arith, each x h.0) t in
    subst WholeLine (sym (append_assoc (32 ∷ write x) (flat_map (λ y. 32 ∷ write y) xs) (codes "))" ++ feed))) w

opens : (h : Head) → AllByRecursion NoFeed (opening h)
opens Taps = plain (opening Taps) refl
opens Table = plain (opening Table) refl
opens Code = plain (opening Code) refl
opens Depth = plain (opening Depth) refl
opens Place = plain (opening Place) refl

body : (f : Form) → Lawful f → WholeLine (body_of f)
body (taps_form n ts) l =
    after (signed_decimal n) _ (number n l.0) (after (codes ") (taps") _ (plain (codes ") (taps") refl) (pieces signed_decimal SevenDigits number ts l.1))
body (table_form n m es) l =
    after (signed_decimal n) _ (number n l.0) (after (codes ") (memory ") _ (plain (codes ") (memory ") refl)
    (after (signed_decimal m) _ (number m l.1) (after (codes ") (entries") _ (plain (codes ") (entries") refl) (pieces entry_text EntryLawful entry es l.2))))
body (code_form m x y) l =
    after (signed_decimal m) _ (number m l.0) (after (codes ") (masks ") _ (plain (codes ") (masks ") refl)
    (after (signed_decimal x) _ (number x l.1) (after (codes " ") _ (plain (codes " ") refl) (after (signed_decimal y) _ (number y l.2) (codes "))", refl, plain (codes "))") refl)))))
body (depth_form d) l = after (signed_decimal d) _ (number d l) (codes ")", refl, plain (codes ")") refl)
body (place_form x y ps) l =
    after (signed_decimal x) _ (number x l.0) (after (codes " ") _ (plain (codes " ") refl)
    (after (signed_decimal y) _ (number y l.1) (after (codes ") (prior") _ (plain (codes ") (prior") refl) (pieces prior_text PriorLawful prior ps l.2))))

pub form_is_a_line : (f : Form) → Lawful f → WholeLine (text_of f)
form_is_a_line f l = after (opening (head_of f)) (body_of f) (opens (head_of f)) (body f l)

-- a text begins with the line of one form only
pub same_start : (f g : Form) (x y : List ℕ) → Lawful f → Lawful g → text_of f ++ x ≡ text_of g ++ y → (f ≡ g) × (x ≡ y)
same_start f g x y lf lg e =
    let t = same_line (text_of f) (text_of g) x y (form_is_a_line f lf) (form_is_a_line g lg) e in
    (same_form f g lf lg t.0, t.1)

some_line : (line : List ℕ) → WholeLine line → 0 < length line
some_line line (x, e, p) = omega (arith, simp length-append at (ap length e))

pub some_form : (f : Form) → Lawful f → 0 < length (text_of f)
some_form f l = some_line (text_of f) (form_is_a_line f l)

-- where there is no line feed, there is no whole line
no_line : (text line more : List ℕ) → AllByRecursion NoFeed text → WholeLine line → text ≡ line ++ more → ⊥
no_line text line more p (x, e, q) h =
    let is : text ≡ x ++ 10 ∷ more = h ∙ ap (λ l. l ++ more) e ∙ append_assoc x feed more in
    let d : AllByRecursion NoFeed (10 ∷ more) = subst (AllByRecursion NoFeed) (front_rest text x (10 ∷ more) is) (All-drop NoFeed (length x) text p) in
    d.0 refl

-- the first line of a text that begins with a form's line is that
pub first_is : (text line rest : List ℕ) (f : Form) (more : List ℕ) → CutsLine text line rest → Lawful f → text ≡ text_of f ++ more → line ≡ text_of f
first_is text line rest f more cut l e = whole_or_not cut.first
  where
    whole_or_not : FirstLine line rest → line ≡ text_of f
    whole_or_not (inl w) = (same_line line (text_of f) rest more w (form_is_a_line f l) (sym cut.parts ∙ e)).0
    whole_or_not (inr (p, q)) =
        let is : text ≡ line = cut.parts ∙ ap (λ r. line ++ r) q ∙ append-nil line in
        absurd (no_line line (text_of f) more p (form_is_a_line f l) (sym is ∙ e))

-- a text whose first line is empty is empty
pub none_left : (text line rest : List ℕ) → CutsLine text line rest → length line ≡ 0 → text ≡ []
none_left text line rest cut z = whole_or_not cut.first
  where
    whole_or_not : FirstLine line rest → text ≡ []
    whole_or_not (inl w) = absurd (omega (arith, some_line line w))
    whole_or_not (inr (p, q)) =
        cut.parts ∙ ap (λ l. l ++ rest) (nil_from_length line z) ∙ q
