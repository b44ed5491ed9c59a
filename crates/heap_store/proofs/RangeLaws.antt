-- The range of a record, field by field. The first field is the tag.
use Rattle.std.proofs.Common.{◌≡◌, ◌<◌, ◌^◌, refl, true, List, [], ◌∷◌}
use Rattle.std.specs.List.{AllByRecursion, list_all}
use Rattle.std.proofs.lemmas.Bool.{and_parts, and_from, ltb-true, lt-ltb}
use Rattle.lazy_rec.specs.declared.records.Rec.{Rec}
use Rattle.lazy_rec.specs.Packed.{Field, fields, fits_field, has_unused_zero, in_range}

abbrev pub FieldsFit : List Field → Type 0
FieldsFit = AllByRecursion (λ (f : Field). f.1 < 2 ^ f.0)

fit_each : (fs : List Field) → list_all fits_field fs ≡ true → FieldsFit fs
fit_each [] h = tt
fit_each (f ∷ fs) h = let k = and_parts (fits_field f) (list_all fits_field fs) h in (ltb-true f.1 (2 ^ f.0) k.0, fit_each fs k.1)

fit_all : (fs : List Field) → FieldsFit fs → list_all fits_field fs ≡ true
fit_all [] h = refl
fit_all (f ∷ fs) h = and_from (fits_field f) (list_all fits_field fs) (lt-ltb f.1 (2 ^ f.0) h.0) (fit_all fs h.1)

pub range_fields : (r : Rec) → in_range r ≡ true → FieldsFit (fields r)
range_fields r h = fit_each (fields r) (and_parts (list_all fits_field (fields r)) (has_unused_zero r) h).0

pub range_from : (r : Rec) → FieldsFit (fields r) → has_unused_zero r ≡ true → in_range r ≡ true
range_from r f h = and_from (list_all fits_field (fields r)) (has_unused_zero r) (fit_all (fields r) f) h
