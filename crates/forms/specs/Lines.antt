-- What is held of a form, and what the readers of lines answer: a line is a form exactly if it is the text of one.
use Rattle.std.specs.Prelude.{◌≡◌, ℕ, cond, List, ◌++◌, map, take, ℤ, pos, negsuc, Result, MatchResult, ◌≢◌, int_le}
use Rattle.std.specs.Borrow.{Bor}
use Rattle.prefix.specs.Prefix.{items}
use Rattle.table.specs.declared.entry.Entry.{Entry}
use Rattle.forms.specs.Forms.{Form, taps_form, table_form, code_form, depth_form, place_form, opening, head_of, body_of, text_of, Lawful}
use Rattle.forms.specs.declared.fault.NotAForm.{NotAForm}
use Rattle.forms.specs.declared.head.Head.{Head}
use Rattle.forms.specs.declared.line.Line.{Line}
use Rattle.forms.specs.declared.line.Line.TheVariants.{Taps, Table, Code, Depth, Place}
use Rattle.forms.specs.declared.line.PlaceLine.{PlaceLine}
use Rattle.forms.specs.declared.line.TableLine.{TableLine}
use Rattle.forms.specs.declared.line.TapsLine.{TapsLine}
use Rattle.forms.specs.declared.prior.Prior.{Prior}

-- the number of 16 bits nearest to a number
abbrev pub nearest : ℤ → ℤ
nearest z = cond (int_le z (negsuc 32767)) (negsuc 32767) (cond (int_le (pos 32767) z) (pos 32767) z)

-- What is held of a form: the first nine taps, each as the nearest number of 16 bits, and the first 257 entries. No channel is loaded with more, or with
-- a tap past 16 bits.
abbrev pub held : Form → Form
held (taps_form noise taps) = taps_form noise (map nearest (take 9 taps))
held (table_form noise memory entries) = table_form noise memory (take 257 entries)
held (code_form memory first second) = code_form memory first second
held (depth_form depth) = depth_form depth
held (place_form first second priors) = place_form first second priors

-- the lists of a line
abbrev pub taps_in : TapsLine → List ℤ
taps_in l = items l.taps

abbrev pub entries_in : TableLine → List Entry
entries_in l = items l.entries

abbrev pub priors_in : PlaceLine → List Prior
priors_in l = items l.priors

-- what a line says
abbrev pub said : Line → Form
said (Taps l) = taps_form l.noise (taps_in l)
said (Table l) = table_form l.noise l.memory (entries_in l)
said (Code l) = code_form l.memory l.first l.second
said (Depth depth) = depth_form depth
said (Place l) = place_form l.sample.first l.sample.second (priors_in l)

-- a line begins as a form, or as none
abbrev pub Opens : List ℕ → Result (Head × Bor (List ℕ)) NotAForm → Type 0
Opens line r =
    MatchResult r (λ p. line ≡ opening p.0 ++ p.1.now) (λ _. (h : Head) (rest : List ℕ) → line ≢ opening h ++ rest)

-- a text is what follows the first words of a lawful form, and the line says what is held of it
pub record IsBody (h : Head) (text : List ℕ) (line : Line) : Type 0 where
  pub form : Form
  pub head_is : head_of form ≡ h
  pub text_is : text ≡ body_of form
  pub lawful : Lawful form
  pub says : said line ≡ held form

abbrev pub ReadsBody : Head → List ℕ → Result Line NotAForm → Type 0
ReadsBody h text r = MatchResult r (λ line. IsBody h text line) (λ _. (f : Form) → head_of f ≡ h → Lawful f → text ≢ body_of f)

-- a text is that of a lawful form, and the line says what is held of it
pub record IsForm (text : List ℕ) (line : Line) : Type 0 where
  pub form : Form
  pub text_is : text ≡ text_of form
  pub lawful : Lawful form
  pub says : said line ≡ held form

-- A line is read if it is the text of a lawful form, and refused if it is that of none.
abbrev pub ReadsLine : List ℕ → Result Line NotAForm → Type 0
ReadsLine text r = MatchResult r (λ line. IsForm text line) (λ _. (f : Form) → Lawful f → text ≢ text_of f)
