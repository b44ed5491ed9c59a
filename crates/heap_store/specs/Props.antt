-- Each fact about a world has one proof at most.
use mathlib.Core.Sum.{⊎_set}
use Rattle.std.specs.Prelude.{ℕ, List, Option}
use Rattle.std.proofs.Props.{props}
use Rattle.lazy_rec.specs.declared.events.Op.{Op}
use Rattle.lazy_rec.specs.declared.events.Kind.{Kind}
use Rattle.lazy_rec.specs.declared.events.Event.{Event}
use Rattle.lazy_rec.specs.declared.events.Reply.{Reply}
use Rattle.lazy_rec.specs.Meaning.{Entry}
use Rattle.heap_store.specs.declared.nodes.Node.{Node}
use Rattle.heap_store.specs.declared.claims.HeldClaim.{HeldClaim}
use Rattle.heap_store.specs.declared.versions.Version.{Version}
use Rattle.heap_store.specs.World.{World}
use Rattle.heap_store.specs.Legal.{IsLegal}
use Rattle.heap_store.specs.Lawful.{IsLawful}
use Rattle.heap_store.specs.LookedAt.{HasRoots}
use Rattle.heap_store.specs.Rows.{Row, Ending}
use Rattle.heap_store.specs.Hand.{Hand, IsLawfulHand}
use Rattle.heap_store.specs.View.{View, IsLawfulView}
use Rattle.heap_store.specs.declared.plain.Work.{Work}
use Rattle.heap_store.specs.Counts.{AreCounted}
use Rattle.heap_store.specs.Plain.{IsSeenWell, IsPlain}

Kind-set : IsSet Kind
Kind-set = hlevel (⊎_set, props)

Op-set : IsSet Op
Op-set = hlevel (Kind-set, ⊎_set, props)

pub Event-set : IsSet Event
Event-set = hlevel (Op-set, props)

Reply-set : IsSet Reply
Reply-set = hlevel (⊎_set, props)

Entry-set : IsSet Entry
Entry-set = hlevel (⊎_set, props)

Version-set : IsSet Version
Version-set = hlevel (Kind-set, props)

Ending-set : IsSet Ending
Ending-set = hlevel (Version-set, Reply-set, ⊎_set, props)

pub Row-set : IsSet Row
Row-set = hlevel (Event-set, Ending-set, props)

pub IsLegal-prop : (w : World) → IsProp (IsLegal w)
IsLegal-prop w = hlevel (Reply-set, props)

pub IsLawful-prop : (w : World) → IsProp (IsLawful w)
IsLawful-prop w = hlevel (Entry-set, props)

pub HasRoots-prop : (w : World) → IsProp (HasRoots w)
HasRoots-prop w = hlevel props

pub IsLawfulHand-prop : (w : World) (h : Hand) → IsProp (IsLawfulHand w h)
IsLawfulHand-prop w h = hlevel props

pub IsLawfulView-prop : (v : View) → IsProp (IsLawfulView v)
IsLawfulView-prop v = hlevel (IsLawful-prop, IsLegal-prop, HasRoots-prop, IsLawfulHand-prop, Event-set, Row-set, props)

IsSeenWell-prop : (w : World) (claims : List HeldClaim) → IsProp (IsSeenWell w claims)
IsSeenWell-prop w claims = hlevel (IsLawful-prop, IsLegal-prop, HasRoots-prop, props)

pub IsPlain-prop : (capacity row_capacity : ℕ) (nodes : List (Option Node)) (claims : List HeldClaim) (rows : List (List ℕ)) → IsProp (IsPlain capacity row_capacity nodes claims rows)
IsPlain-prop capacity row_capacity nodes claims rows = hlevel (IsSeenWell-prop, props)

pub AreCounted-prop : (places : List (Option Node)) (work : Work) → IsProp (AreCounted places work)
AreCounted-prop places work = hlevel props
