-- The words of operations and kinds, by the tables of the code. Rows stand in the order of numbers, `new` at 0.
use Rattle.std.specs.Prelude.{ℕ, Bool, true, false, List, [], ◌∷◌, codes, Option, Some, None, if◌then◌else◌, slice_get, map, take}
use Rattle.std.specs.Str.{bytes_eq}
use denote.Ref.{Bor}
use Rattle.lazy_rec.specs.declared.events.Kind.{Kind}
use Rattle.lazy_rec.specs.declared.events.Kind.TheVariants as kind_names
use Rattle.lazy_rec.specs.declared.events.Op.{Op}
use Rattle.lazy_rec.specs.declared.events.Op.TheVariants as ops
use Rattle.lazy_rec.specs.Kinds.{kind_number}
use Rattle.lazy_rec.specs.Numbering.{op_number}
use Rattle.script_text.specs.declared.model.Form.{Form}
use Rattle.script_text.specs.declared.model.Form.TheVariants as forms
use Rattle.script_text.specs.declared.words.Syntax.{Syntax}
use Rattle.script_text.specs.declared.words.Syntax.TheVariants as syntax
use Rattle.script_text.specs.declared.words.TheConstants.{OPERATIONS, KINDS}

-- what a word stands for in a table of words
abbrev pub look : {X : Type 0} → List ℕ → List (List ℕ × X) → Option X
look w [] = None
look w (row ∷ rows) = if bytes_eq w row.0 then Some row.1 else look w rows

-- a row of a table, and the two tables, as contracts see them
abbrev pub said_row : {X : Type 0} → Bor (List ℕ) × X → List ℕ × X
said_row row = (row.0.now, row.1)

abbrev pub operations : List (List ℕ × Syntax)
operations = map (λ row. (row.0.now, row.1)) OPERATIONS

abbrev pub kinds : List (List ℕ × Kind)
kinds = map (λ row. (row.0.now, row.1)) KINDS

-- labels and `split`, the last operation of the table, came with form 2
abbrev pub has_labels : Form → Bool
has_labels forms.One = false
has_labels _ = true

abbrev pub operations_in : Form → List (List ℕ × Syntax)
operations_in form = if has_labels form then operations else take 27 operations

abbrev pub syntax_of : Form → List ℕ → Option Syntax
syntax_of form w = look w (operations_in form)

abbrev pub kind_named : List ℕ → Option Kind
kind_named w = look w kinds

abbrev pub word_in : {X : Type 0} → Option (List ℕ × X) → List ℕ
word_in None = []
word_in (Some row) = row.0

abbrev pub syntax_in : Option (List ℕ × Syntax) → Syntax
syntax_in None = syntax.New
syntax_in (Some row) = row.1

-- the row of an operation
abbrev pub row_of : Op → ℕ
row_of (ops.New k) = 0
row_of o = op_number o

-- the word of an operation, and what follows it
abbrev pub op_word : Op → List ℕ
op_word o = word_in (slice_get operations (row_of o))

abbrev pub op_syntax : Op → Syntax
op_syntax o = syntax_in (slice_get operations (row_of o))

-- the word of a kind
abbrev pub kind_word : Kind → List ℕ
kind_word k = word_in (slice_get kinds (kind_number k))

-- the words of operations with what follows each, and those of kinds
abbrev pub said_operations : List (List ℕ × Syntax)
said_operations = (codes "new", syntax.New) ∷ (codes "size", syntax.Base ops.Size) ∷ (codes "cons", syntax.Argument ops.Cons) ∷ (codes "snoc", syntax.Argument ops.Snoc) ∷ (codes "append", syntax.Other ops.Append) ∷ (codes "reverse", syntax.Base ops.Reverse) ∷ (codes "head", syntax.Base ops.Head) ∷ (codes "tail", syntax.Base ops.Tail) ∷ (codes "insert", syntax.Argument ops.Insert) ∷ (codes "min", syntax.Base ops.Min) ∷ (codes "delmin", syntax.Base ops.Delmin) ∷ (codes "meld", syntax.Other ops.Meld) ∷ (codes "max", syntax.Base ops.Max) ∷ (codes "delmax", syntax.Base ops.Delmax) ∷ (codes "pushl", syntax.Argument ops.Pushl) ∷ (codes "pushr", syntax.Argument ops.Pushr) ∷ (codes "popl", syntax.Base ops.Popl) ∷ (codes "popr", syntax.Base ops.Popr) ∷ (codes "first", syntax.Base ops.First) ∷ (codes "last", syntax.Base ops.Last) ∷ (codes "nth", syntax.Argument ops.Nth) ∷ (codes "take", syntax.Argument ops.Take) ∷ (codes "drop", syntax.Argument ops.Drop) ∷ (codes "concat", syntax.Other ops.Concat) ∷ (codes "has", syntax.Argument ops.Has) ∷ (codes "remove", syntax.Argument ops.Remove) ∷ (codes "upto", syntax.Argument ops.Upto) ∷ (codes "split", syntax.Argument ops.Split) ∷ []

abbrev pub said_kinds : List (List ℕ × Kind)
said_kinds = (codes "stream", kind_names.Stream) ∷ (codes "bankq", kind_names.Bankq) ∷ (codes "rtq", kind_names.Rtq) ∷ (codes "heap", kind_names.Heap) ∷ (codes "seq", kind_names.Seq) ∷ (codes "prio", kind_names.Prio) ∷ (codes "ord", kind_names.Ord) ∷ (codes "cat", kind_names.Cat) ∷ []
