-- What is built, as a kind's operations.
use Rattle.std.proofs.Common.{◌≡◌, refl, sym, ◌∙◌, Bool, true, false, ◌||◌, not}
use Rattle.std.proofs.lemmas.Bool.{true≢false, and_parts}
use Rattle.lazy_rec.specs.declared.events.Kind.{Kind}
use Rattle.lazy_rec.specs.declared.events.Kind.TheVariants as kinds
use Rattle.lazy_rec.specs.declared.events.Op.{Op}
use Rattle.lazy_rec.specs.declared.events.Op.TheVariants as ops
use Rattle.lazy_rec.specs.Kinds.{belongs, uses_base, is_split}
use Rattle.finger_apps.specs.Sequence.{is_end_op}
use Rattle.kind_table.specs.Kinds.{is_kind_built, is_built}

had : (has based : Bool) → has || not based ≡ true → based ≡ true → has ≡ true
had true _ h b = refl
had false true h b = absurd (true≢false (sym h))
had false false h b = absurd (true≢false (sym b))

end_belongs : (op : Op) → is_end_op op ≡ true → belongs kinds.Seq op ≡ true
end_belongs ops.Size h = refl
end_belongs ops.Pushl h = refl
end_belongs ops.Pushr h = refl
end_belongs ops.Popl h = refl
end_belongs ops.Popr h = refl
end_belongs ops.First h = refl
end_belongs ops.Last h = refl
end_belongs _ h = absurd (true≢false (sym h))

-- an operation that is built and starts from a version is one of its kind
pub built_belongs : (k : Kind) (op : Op) → is_built k op ≡ true → uses_base op ≡ true → belongs k op ≡ true
built_belongs kinds.Seq op b u = end_belongs op (had (is_end_op op) (uses_base op) b u)
built_belongs k op b u = had (belongs k op) (uses_base op) (and_parts (is_kind_built k) (belongs k op || not (uses_base op)) b).1 u

at_ends : (op : Op) → belongs kinds.Seq op ≡ true → (is_end_op op || not (uses_base op)) ≡ true → is_end_op op ≡ true
at_ends (ops.New _) h b = absurd (true≢false (sym h))
at_ends ops.Size h b = refl
at_ends ops.Pushl h b = refl
at_ends ops.Pushr h b = refl
at_ends ops.Popl h b = refl
at_ends ops.Popr h b = refl
at_ends ops.First h b = refl
at_ends ops.Last h b = refl
at_ends _ h b = absurd (true≢false (sym b))

-- an operation of sequences that is built is one at the ends
pub built_at_ends : (k : Kind) (op : Op) → k ≡ kinds.Seq → is_built k op ≡ true → belongs k op ≡ true → is_end_op op ≡ true
built_at_ends k op is b h = at_ends op (rw is at h) (rw is at b)

split_unbuilt : (k : Kind) → is_built k ops.Split ≡ false
split_unbuilt kinds.Seq = refl
split_unbuilt _ = refl

-- a split isn't built yet
pub built_unsplit : (k : Kind) (op : Op) → is_built k op ≡ true → is_split op ≡ false
built_unsplit k ops.Split b = absurd (true≢false (sym b ∙ split_unbuilt k))
built_unsplit k _ b = refl
