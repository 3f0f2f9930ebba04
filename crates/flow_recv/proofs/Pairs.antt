-- The pairs of an ack, one after another.
use Rattle.std.proofs.Common.{◌≡◌, ℕ, ◌+◌, ◌-◌, ◌<◌, ◌≤◌, List, ◌∷◌, ◌++◌, refl, ap, ◌∙◌, subst, arith, append_assoc}
use Rattle.flow_recv.specs.declared.spans.Span.{Span}
use Rattle.flow_recv.specs.Receiver.{Apart, span}
use Rattle.flow_recv.specs.Above.{spans_of}

-- the next span
pub record Next (after : ℕ) (s : Span) (later : List Span) : Type 0 where
  pub above : after + 1 < s.first
  pub order : s.first ≤ s.last
  pub rest : Apart (span 0 s.last ∷ later)

pub next_span : (after : ℕ) (s : Span) (later : List Span) → Apart (span 0 after ∷ s ∷ later) → Next after s later
next_span after s later h = record { above = h.1 s (Rattle.std.proofs.Common.inl refl); order = h.2.0; rest = (omega arith, h.2.1, h.2.2) }

-- the first of a map's entries
pub next_above : (after first last : ℕ) (es later : List (ℕ × ℕ)) → es ≡ (first, last) ∷ later → Apart (span 0 after ∷ spans_of es) → after + 1 < first
next_above after first last es later e h =
    (next_span after (span first last) (spans_of later) (subst (λ (fs : List (ℕ × ℕ)). Apart (span 0 after ∷ spans_of fs)) e h)).above

-- pieces that were put one after another
pub pieces : (o p l f b t q : List ℕ) → (((((o ++ p) ++ l) ++ f) ++ b) ++ t) ++ q ≡ o ++ (p ++ (l ++ (((f ++ b) ++ t) ++ q)))
pieces o p l f b t q =
    let a = (o ++ p) ++ l in
    ap (λ (x : List ℕ). (x ++ t) ++ q) (append_assoc a f b)
    ∙ (ap (λ (x : List ℕ). x ++ q) (append_assoc a (f ++ b) t) ∙ (append_assoc a ((f ++ b) ++ t) q
    ∙ (append_assoc (o ++ p) l (((f ++ b) ++ t) ++ q) ∙ append_assoc o p (l ++ (((f ++ b) ++ t) ++ q)))))
