use Rattle.std.proofs.Common.{◌+◌, ◌-◌, [], ◌∷◌, refl, sym, ap, ◌∙◌, arith, subst}
use Rattle.heap_store.specs.Hand.{places_from}
use Rattle.heap_store.specs.Plain.{no_refusal}
use Rattle.heap_store.specs.View.{IsLawfulView}
use Rattle.word_store.specs.Views.{view_with}
use Rattle.word_store.specs.Sound.{IsSound}
use Rattle.word_store.specs.Opened.{opened_sight}
use Rattle.word_store.proofs.Views.{view_lawful}
use Rattle.word_store.proofs.Opening.{opened_sound}
use Rattle.word_store.proofs.Dealing.{deals, sight_left, first_left, view_opened}
use Rattle.word_store.proofs.store.Store.pass.Goals as goal

pub split_seat-seat-requires : goal.split_seat-seat-requires
split_seat-seat-requires c = let p = c.args.self.now in let e = p.tied ∙ ap (λ t. t.shared.table_id) (sym c.deref.ensures) in (
  e,
  omega (arith, p.long, ap (λ t. t.words) e),
  deals c.deref.result.now.shared.key p.layout.nodes p.layout.rows p.callers p.next (places_from (p.next + 1) (p.callers - (p.next + 1))) p.seat.id p.seat.me.0 (sight_left p.layout.nodes p.layout.rows p.callers p.next c.requires.left p.seat.me.0 p.seen),
)

pub invariant_of-result : goal.invariant_of-result
invariant_of-result c = let p = c.args.self.now in let t = c.split_seat-seat.ensures in let q = c.split_seat-seat.result in
    let is = ap (λ m. m.0) t.4 ∙ first_left p.layout.nodes p.layout.rows p.callers p.next c.requires.left p.seat.me.0 p.seen in
    let sound = opened_sound p.layout.nodes p.layout.rows p.callers (p.next ∷ []) p.small.0 p.small.1 p.small.2 p.small.3 in
    record {
      tied = t.3 ∙ (p.tied ∙ ap (λ x. x.shared.table_id) (sym c.in-Ok.ensures));
      sized = (ap (λ v. v.nodes) is, ap (λ v. v.rows) is);
      long = ap (λ x. x.words) t.3 ∙ p.long;
      number = ap (λ v. v.numbers) is;
      bare = ap (λ m. m.1) t.4;
      sound = subst IsSound (sym is) sound;
      law = subst (λ v. IsLawfulView (view_with v p.next 0 no_refusal 0 0)) (sym is) (view_lawful (opened_sight p.layout.nodes p.layout.rows p.callers (p.next ∷ [])) p.next 0 no_refusal 0 0 refl sound (λ some. absurd (omega (arith, some))));
    }

pub returns-clause-ok : goal.returns-clause-ok
returns-clause-ok c = let p = c.args.self.now in let t = c.split_seat-seat.ensures in
    ap (λ v. view_with v p.next 0 no_refusal 0 0) (ap (λ m. m.0) t.4 ∙ first_left p.layout.nodes p.layout.rows p.callers p.next c.requires.left p.seat.me.0 p.seen) ∙ view_opened p.layout.nodes p.layout.rows p.callers p.next
