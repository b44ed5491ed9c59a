-- A longer list, where a version may have so many items and where not.
use Rattle.std.proofs.Common.{◌≡◌, ℕ, leb, Bool, true, false, List, length, ap, sym, ◌∙◌}
use Rattle.lazy_rec.specs.Plain.{grown, most_items}
use Rattle.lazy_rec.specs.declared.events.Reply.{Reply}
use Rattle.lazy_rec.specs.declared.events.Reply.TheVariants as replies

pub grown-allowed : (v longer : List ℕ) (n : ℕ) (b : Bool) → length longer ≡ n → b ≡ leb n most_items → b ≡ true → grown v longer ≡ (longer, replies.Ok)
grown-allowed v longer n b e h t = rw (e, sym h ∙ t)

pub grown-too_long : (v longer : List ℕ) (n : ℕ) (b : Bool) → length longer ≡ n → b ≡ leb n most_items → b ≡ false → grown v longer ≡ (v, replies.TooLong)
grown-too_long v longer n b e h t = rw (e, sym h ∙ t)

-- a pair that is known, by its parts
pub by_parts : (p : List ℕ × Reply) (l m : List ℕ) (r : Reply) → p ≡ (l, r) → m ≡ l → (m ≡ p.0) × (r ≡ p.1)
by_parts p l m r e h = (h ∙ sym (ap (λ (q : List ℕ × Reply). q.0) e), sym (ap (λ (q : List ℕ × Reply). q.1) e))
