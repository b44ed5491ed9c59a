-- A record in range is what its words show.
use Rattle.std.proofs.Common.{◌≡◌, ℕ, refl, ap, ◌∙◌, arith, Bool, true, false, cond, eqb}
use Rattle.lazy_rec.specs.declared.records.Rec.{Rec}
use Rattle.lazy_rec.specs.declared.records.Rec.TheVariants.{Nil, Cons, LNil, LCons, StreamTop, BankTop, RtTop, HeapTop, TNil, TCons, Tree, CatNil, CatNode, TEmpty, Leaf, Node, Digit, Single, Deep, Append, Reverse, BankRot, RtRot, HeapInsert, HeapMerge, LinkAll, PushL, PushR, DeepL, DeepR, Concat}
use Rattle.lazy_rec.specs.Packed.{in_range, words_of}
use Rattle.lazy_rec.specs.Shown.{at, value_at, tagged, shown}
use Rattle.lazy_rec.proofs.FieldWords.{fields-fit}

-- the words of a record show its tag
picked : (tag : ℕ) (r : Rec) → at (words_of r) 0 0 6 ≡ tag → tagged tag (words_of r) ≡ r → shown (words_of r) ≡ r
picked tag r e h = ap (λ k. tagged k (words_of r)) e ∙ h

flag_shown : (b : Bool) → eqb (cond b 1 0) 1 ≡ b
flag_shown true = refl
flag_shown false = refl

-- each field of a record in range is found at its place
pub shown-words_of : (r : Rec) → in_range r ≡ true → shown (words_of r) ≡ r
shown-words_of Nil h = refl
shown-words_of (Cons child v rest) h =
    let r : Rec = Cons child v rest in
    let fit = fields-fit r h in
    let ws = words_of r in
    let e : (at ws 0 6 1 ≡ cond child 1 0) × (value_at ws 1 ≡ v) × (at ws 2 0 22 ≡ rest.0) = omega arith in
    picked 2 r (omega arith) (rw (e.0, e.1, e.2, flag_shown child) refl)
shown-words_of LNil h = refl
shown-words_of (LCons child v rest) h =
    let r : Rec = LCons child v rest in
    let fit = fields-fit r h in
    let ws = words_of r in
    let e : (at ws 0 6 1 ≡ cond child 1 0) × (value_at ws 1 ≡ v) × (at ws 2 0 22 ≡ rest.0) = omega arith in
    picked 4 r (omega arith) (rw (e.0, e.1, e.2, flag_shown child) refl)
shown-words_of (StreamTop cells total) h =
    let r : Rec = StreamTop cells total in
    let fit = fields-fit r h in
    let ws = words_of r in
    let e : (at ws 0 6 22 ≡ cells.0) × (at ws 0 28 31 ≡ total) = omega arith in
    picked 5 r (omega arith) (rw (e.0, e.1) refl)
shown-words_of (BankTop rotated front lenf rear lenr origin n tails) h =
    let r : Rec = BankTop rotated front lenf rear lenr origin n tails in
    let fit = fields-fit r h in
    let ws = words_of r in
    let e : (at ws 0 6 22 ≡ front.0) × (at ws 0 28 31 ≡ lenf) × (at ws 1 0 22 ≡ rear.0) × (at ws 1 22 31 ≡ lenr) × (at ws 1 53 1 ≡ cond rotated 1 0) × (at ws 2 0 22 ≡ origin.0) × (at ws 2 22 31 ≡ n) × (at ws 3 0 31 ≡ tails) = omega arith in
    picked 6 r (omega arith) (rw (e.0, e.1, e.2, e.3, e.4, e.5, e.6, e.7, flag_shown rotated) refl)
shown-words_of (RtTop front lenf rear lenr sched) h =
    let r : Rec = RtTop front lenf rear lenr sched in
    let fit = fields-fit r h in
    let ws = words_of r in
    let e : (at ws 0 6 22 ≡ front.0) × (at ws 0 28 31 ≡ lenf) × (at ws 1 0 22 ≡ rear.0) × (at ws 1 22 31 ≡ lenr) × (at ws 2 0 22 ≡ sched.0) = omega arith in
    picked 7 r (omega arith) (rw (e.0, e.1, e.2, e.3, e.4) refl)
shown-words_of (HeapTop list total owed) h =
    let r : Rec = HeapTop list total owed in
    let fit = fields-fit r h in
    let ws = words_of r in
    let e : (at ws 0 6 22 ≡ list.0) × (at ws 0 28 31 ≡ total) × (at ws 1 0 6 ≡ owed) = omega arith in
    picked 8 r (omega arith) (rw (e.0, e.1, e.2) refl)
shown-words_of TNil h = refl
shown-words_of (TCons tree rest) h =
    let r : Rec = TCons tree rest in
    let fit = fields-fit r h in
    let ws = words_of r in
    let e : (at ws 0 6 22 ≡ tree.0) × (at ws 0 28 22 ≡ rest.0) = omega arith in
    picked 10 r (omega arith) (rw (e.0, e.1) refl)
shown-words_of (Tree rank x kids) h =
    let r : Rec = Tree rank x kids in
    let fit = fields-fit r h in
    let ws = words_of r in
    let e : (at ws 0 6 5 ≡ rank) × (value_at ws 1 ≡ x.0) × (at ws 2 0 22 ≡ kids.0) = omega arith in
    picked 11 r (omega arith) (rw (e.0, e.1, e.2) refl)
shown-words_of CatNil h = refl
shown-words_of (CatNode x kids total) h =
    let r : Rec = CatNode x kids total in
    let fit = fields-fit r h in
    let ws = words_of r in
    let e : (value_at ws 1 ≡ x.0) × (at ws 2 0 22 ≡ kids.0) × (at ws 2 22 31 ≡ total) = omega arith in
    picked 13 r (omega arith) (rw (e.0, e.1, e.2) refl)
shown-words_of TEmpty h = refl
shown-words_of (Leaf x) h =
    let r : Rec = Leaf x in
    let fit = fields-fit r h in
    let ws = words_of r in
    let e : value_at ws 1 ≡ x.0 = omega arith in
    picked 15 r (omega arith) (rw (e) refl)
shown-words_of (Node count e1 e2 e3 total key) h =
    let r : Rec = Node count e1 e2 e3 total key in
    let fit = fields-fit r h in
    let ws = words_of r in
    let e : (at ws 0 6 2 ≡ count) × (at ws 0 8 22 ≡ e1.0) × (at ws 0 30 22 ≡ e2.0) × (at ws 1 0 22 ≡ e3.0) × (at ws 1 22 31 ≡ total) × (value_at ws 2 ≡ key.0) = omega arith in
    picked 16 r (omega arith) (rw (e.0, e.1, e.2, e.3, e.4, e.5) refl)
shown-words_of (Digit count e1 e2 e3 e4 total key) h =
    let r : Rec = Digit count e1 e2 e3 e4 total key in
    let fit = fields-fit r h in
    let ws = words_of r in
    let e : (at ws 0 6 3 ≡ count) × (at ws 0 9 22 ≡ e1.0) × (at ws 0 31 22 ≡ e2.0) × (at ws 1 0 22 ≡ e3.0) × (at ws 1 22 22 ≡ e4.0) × (at ws 2 0 31 ≡ total) × (value_at ws 3 ≡ key.0) = omega arith in
    picked 17 r (omega arith) (rw (e.0, e.1, e.2, e.3, e.4, e.5, e.6) refl)
shown-words_of (Single elem total key) h =
    let r : Rec = Single elem total key in
    let fit = fields-fit r h in
    let ws = words_of r in
    let e : (at ws 0 6 22 ≡ elem.0) × (at ws 0 28 31 ≡ total) × (value_at ws 1 ≡ key.0) = omega arith in
    picked 18 r (omega arith) (rw (e.0, e.1, e.2) refl)
shown-words_of (Deep left middle right total key) h =
    let r : Rec = Deep left middle right total key in
    let fit = fields-fit r h in
    let ws = words_of r in
    let e : (at ws 0 6 22 ≡ left.0) × (at ws 0 28 22 ≡ middle.0) × (at ws 1 0 22 ≡ right.0) × (at ws 1 22 31 ≡ total) × (value_at ws 2 ≡ key.0) = omega arith in
    picked 19 r (omega arith) (rw (e.0, e.1, e.2, e.3, e.4) refl)
shown-words_of (Append xs ys left origin off) h =
    let r : Rec = Append xs ys left origin off in
    let fit = fields-fit r h in
    let ws = words_of r in
    let e : (at ws 0 6 22 ≡ xs.0) × (at ws 0 28 22 ≡ ys.0) × (at ws 1 0 31 ≡ left) × (at ws 1 31 22 ≡ origin.0) × (at ws 2 0 31 ≡ off) = omega arith in
    picked 32 r (omega arith) (rw (e.0, e.1, e.2, e.3, e.4) refl)
shown-words_of (Reverse xs left) h =
    let r : Rec = Reverse xs left in
    let fit = fields-fit r h in
    let ws = words_of r in
    let e : (at ws 0 6 22 ≡ xs.0) × (at ws 0 28 31 ≡ left) = omega arith in
    picked 33 r (omega arith) (rw (e.0, e.1) refl)
shown-words_of (BankRot xs rear left origin off) h =
    let r : Rec = BankRot xs rear left origin off in
    let fit = fields-fit r h in
    let ws = words_of r in
    let e : (at ws 0 6 22 ≡ xs.0) × (at ws 0 28 22 ≡ rear.0) × (at ws 1 0 31 ≡ left) × (at ws 1 31 22 ≡ origin.0) × (at ws 2 0 31 ≡ off) = omega arith in
    picked 34 r (omega arith) (rw (e.0, e.1, e.2, e.3, e.4) refl)
shown-words_of (RtRot xs rear acc left origin off) h =
    let r : Rec = RtRot xs rear acc left origin off in
    let fit = fields-fit r h in
    let ws = words_of r in
    let e : (at ws 0 6 22 ≡ xs.0) × (at ws 0 28 22 ≡ rear.0) × (at ws 1 0 22 ≡ acc.0) × (at ws 1 22 31 ≡ left) × (at ws 2 0 22 ≡ origin.0) × (at ws 2 22 31 ≡ off) = omega arith in
    picked 35 r (omega arith) (rw (e.0, e.1, e.2, e.3, e.4, e.5) refl)
shown-words_of (HeapInsert x list total) h =
    let r : Rec = HeapInsert x list total in
    let fit = fields-fit r h in
    let ws = words_of r in
    let e : (value_at ws 1 ≡ x.0) × (at ws 2 0 22 ≡ list.0) × (at ws 2 22 31 ≡ total) = omega arith in
    picked 36 r (omega arith) (rw (e.0, e.1, e.2) refl)
shown-words_of (HeapMerge list1 list2 n1 n2) h =
    let r : Rec = HeapMerge list1 list2 n1 n2 in
    let fit = fields-fit r h in
    let ws = words_of r in
    let e : (at ws 0 6 22 ≡ list1.0) × (at ws 0 28 22 ≡ list2.0) × (at ws 1 0 31 ≡ n1) × (at ws 1 31 31 ≡ n2) = omega arith in
    picked 37 r (omega arith) (rw (e.0, e.1, e.2, e.3) refl)
shown-words_of (LinkAll queue len total origin off) h =
    let r : Rec = LinkAll queue len total origin off in
    let fit = fields-fit r h in
    let ws = words_of r in
    let e : (at ws 0 6 22 ≡ queue.0) × (at ws 0 28 31 ≡ len) × (at ws 1 0 31 ≡ total) × (at ws 1 31 22 ≡ origin.0) × (at ws 2 0 31 ≡ off) = omega arith in
    picked 38 r (omega arith) (rw (e.0, e.1, e.2, e.3, e.4) refl)
shown-words_of (PushL count off tree e1 e2 origin total key) h =
    let r : Rec = PushL count off tree e1 e2 origin total key in
    let fit = fields-fit r h in
    let ws = words_of r in
    let e : (at ws 0 6 22 ≡ tree.0) × (at ws 0 28 2 ≡ count) × (at ws 0 30 22 ≡ e1.0) × (at ws 1 0 22 ≡ e2.0) × (at ws 1 22 22 ≡ origin.0) × (at ws 1 44 5 ≡ off) × (at ws 2 0 31 ≡ total) × (value_at ws 3 ≡ key.0) = omega arith in
    picked 39 r (omega arith) (rw (e.0, e.1, e.2, e.3, e.4, e.5, e.6, e.7) refl)
shown-words_of (PushR count off tree e1 e2 origin total key) h =
    let r : Rec = PushR count off tree e1 e2 origin total key in
    let fit = fields-fit r h in
    let ws = words_of r in
    let e : (at ws 0 6 22 ≡ tree.0) × (at ws 0 28 2 ≡ count) × (at ws 0 30 22 ≡ e1.0) × (at ws 1 0 22 ≡ e2.0) × (at ws 1 22 22 ≡ origin.0) × (at ws 1 44 5 ≡ off) × (at ws 2 0 31 ≡ total) × (value_at ws 3 ≡ key.0) = omega arith in
    picked 40 r (omega arith) (rw (e.0, e.1, e.2, e.3, e.4, e.5, e.6, e.7) refl)
shown-words_of (DeepL middle digit total origin off key) h =
    let r : Rec = DeepL middle digit total origin off key in
    let fit = fields-fit r h in
    let ws = words_of r in
    let e : (at ws 0 6 22 ≡ middle.0) × (at ws 0 28 22 ≡ digit.0) × (at ws 1 0 31 ≡ total) × (at ws 1 31 22 ≡ origin.0) × (at ws 1 53 5 ≡ off) × (value_at ws 2 ≡ key.0) = omega arith in
    picked 41 r (omega arith) (rw (e.0, e.1, e.2, e.3, e.4, e.5) refl)
shown-words_of (DeepR middle digit total origin off key) h =
    let r : Rec = DeepR middle digit total origin off key in
    let fit = fields-fit r h in
    let ws = words_of r in
    let e : (at ws 0 6 22 ≡ middle.0) × (at ws 0 28 22 ≡ digit.0) × (at ws 1 0 31 ≡ total) × (at ws 1 31 22 ≡ origin.0) × (at ws 1 53 5 ≡ off) × (value_at ws 2 ≡ key.0) = omega arith in
    picked 42 r (omega arith) (rw (e.0, e.1, e.2, e.3, e.4, e.5) refl)
shown-words_of (Concat off left right list origin total key) h =
    let r : Rec = Concat off left right list origin total key in
    let fit = fields-fit r h in
    let ws = words_of r in
    let e : (at ws 0 6 22 ≡ left.0) × (at ws 0 28 22 ≡ right.0) × (at ws 1 0 22 ≡ list.0) × (at ws 1 22 22 ≡ origin.0) × (at ws 1 44 5 ≡ off) × (at ws 2 0 31 ≡ total) × (value_at ws 3 ≡ key.0) = omega arith in
    picked 43 r (omega arith) (rw (e.0, e.1, e.2, e.3, e.4, e.5, e.6) refl)
