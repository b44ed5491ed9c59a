-- The lines of a text, the words of a line, and the numbers and labels among them.
use Rattle.std.specs.Prelude.{ℕ, ◌-◌, Bool, true, false, ◌&&◌, ◌||◌, List, [], ◌∷◌, length, take, drop, filter, Result, Ok, Err, ◌==◌, nat_lt, nat_le, if◌then◌else◌, codes}
use Rattle.std.specs.Char.{is_ascii_digit, is_ascii_lowercase}
use Rattle.std.specs.List.{slice_split, list_all}
use Rattle.std.specs.Str.{bytes_eq}
use Rattle.std.specs.Str.Parse.{digits_value}
use Rattle.script_text.specs.declared.model.Form.{Form}
use Rattle.script_text.specs.declared.model.Form.TheVariants as forms
use Rattle.script_text.specs.declared.model.Reason.{Reason}
use Rattle.script_text.specs.declared.model.Reason.TheVariants.{BadNumber}

abbrev pub is_filled : List ℕ → Bool
is_filled [] = false
is_filled (c ∷ cs) = true

-- what follows the last line end is a line unless it is empty
abbrev pub ended : List (List ℕ) → List (List ℕ)
ended [] = []
ended (x ∷ []) = if is_filled x then x ∷ [] else []
ended (x ∷ y ∷ more) = x ∷ ended (y ∷ more)

-- lines end at byte 10; the last may lack it
abbrev pub lines_of : List ℕ → List (List ℕ)
lines_of bytes = ended (slice_split (λ b. b == 10) bytes)

-- words are the pieces between spaces that aren't empty
abbrev pub words_of : List ℕ → List (List ℕ)
words_of line = filter is_filled (slice_split (λ b. b == 32) line)

-- a number has at most so many digits, and is at most so much
abbrev pub most_digits : Form → ℕ
most_digits forms.Three = 20
most_digits _ = 10

abbrev pub most_number : Form → ℕ
most_number forms.Three = 18446744073709551615
most_number _ = 4294967295

abbrev pub is_number : Form → List ℕ → Bool
is_number form w = nat_lt 0 (length w) && nat_le (length w) (most_digits form) && list_all is_ascii_digit w && nat_le (digits_value 10 w) (most_number form)

abbrev pub number_of : Form → List ℕ → Result ℕ Reason
number_of form w = if is_number form w then Ok (digits_value 10 w) else Err BadNumber

abbrev pub begins_with : ℕ → List ℕ → Bool
begins_with b [] = false
begins_with b (c ∷ cs) = c == b

abbrev pub is_comment : List ℕ → Bool
is_comment w = begins_with 35 w

-- a word that begins with @
abbrev pub begins_label : List ℕ → Bool
begins_label w = begins_with 64 w

abbrev pub is_label_byte : ℕ → Bool
is_label_byte b = is_ascii_lowercase b || is_ascii_digit b

-- @ and 1 to 16 lower-case letters or digits
abbrev pub is_label : List ℕ → Bool
is_label [] = false
is_label (c ∷ cs) = c == 64 && nat_le 1 (length cs) && nat_le (length cs) 16 && list_all is_label_byte cs

-- a word without its ending .1 or .2, and whether it has the second one
abbrev pub cut_ending : List ℕ → List ℕ × Bool
cut_ending w =
    let stem = take (length w - 2) w in
    let ending = drop (length w - 2) w in
    if bytes_eq ending (codes ".2") then (stem, true) else (if bytes_eq ending (codes ".1") then (stem, false) else (w, false))
