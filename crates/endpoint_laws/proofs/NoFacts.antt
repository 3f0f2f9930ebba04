-- Entries that state nothing.
use Rattle.std.proofs.Common.{List, [], ◌∷◌, ◌++◌, Option, Some, None}
use Rattle.glare_core.specs.declared.facts.Fact.{Fact}
use Rattle.endpoint_model.specs.declared.entry.Entry.{Entry}
use Rattle.endpoint_model.specs.Views.{fact_in}
use Rattle.endpoint_laws.proofs.PacketPieces.{any_sends}
use Rattle.endpoint_laws.proofs.Small.{Any, Sends}

-- there is no fact, and this
abbrev pub NoFactAnd : Option Fact → Type 0 → Type 0
NoFactAnd None P = P
NoFactAnd (Some fact) P = ⊥

abbrev pub NoFacts : List Entry → Type 0
NoFacts [] = Unit {0}
NoFacts (entry ∷ rest) = NoFactAnd (fact_in entry) (NoFacts rest)

pub the_rest : (o : Option Fact) (P : Type 0) → NoFactAnd o P → P
the_rest None P none = none
the_rest (Some fact) P none = absurd none

and_then : (o : Option Fact) (P Q : Type 0) → (P → Q) → NoFactAnd o P → NoFactAnd o Q
and_then None P Q f none = f none
and_then (Some fact) P Q f none = absurd none

none_in_both : (xs ys : List Entry) → NoFacts xs → NoFacts ys → NoFacts (xs ++ ys)
none_in_both [] ys p q = q
none_in_both (x ∷ xs) ys p q = and_then (fact_in x) (NoFacts xs) (NoFacts (xs ++ ys)) (λ rest. none_in_both xs ys rest q) p

-- ---- what is sent states nothing

pub none_sends : Sends Any (λ s d. NoFacts d.entries)
none_sends = any_sends (record {
  steps = record { does_nothing = λ s. tt; and_then = λ s d e first later. none_in_both d.entries e.entries first later };
  out = λ s generation keys to sid plain. tt;
  out_in = λ s near row to body is. tt;
  packets = λ s near row is. tt;
})
