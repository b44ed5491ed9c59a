-- Each fact about a sight has one proof at most.
use Rattle.std.specs.Prelude.{ℕ, List, Option}
use Rattle.std.proofs.Props.{props}
use Rattle.lazy_rec.specs.declared.events.Event.{Event}
use Rattle.heap_store.specs.Props.{IsLawful-prop, IsLegal-prop, HasRoots-prop, IsLawfulHand-prop, Event-set, Row-set}
use Rattle.word_world.specs.LawfulWords.{IsLawfulWords}
use Rattle.word_store.specs.declared.sight.Sight.{Sight}
use Rattle.word_store.specs.Sound.{IsSound, IsAlone}

IsLawfulWords-prop : (nodes rows : ℕ) (plan : Option (List Event)) (ws : List ℕ) → IsProp (IsLawfulWords nodes rows plan ws)
IsLawfulWords-prop nodes rows plan ws = hlevel (IsLawful-prop, IsLegal-prop, HasRoots-prop, Event-set, props)

IsAlone-prop : (v : Sight) → IsProp (IsAlone v)
IsAlone-prop v = hlevel props

pub IsSound-prop : (v : Sight) → IsProp (IsSound v)
IsSound-prop v = hlevel (IsLawfulWords-prop, IsLawfulHand-prop, IsAlone-prop, Row-set, props)
