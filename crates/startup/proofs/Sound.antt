-- The attempts and the ledger name the same things, whatever is done.
use Rattle.std.proofs.Common.{ℕ, List, ◌≡◌, refl, sym, ap, ◌∙◌, Some, None, Option, is_some}
use Rattle.std.specs.FinMap.{get, get-empty}
use Rattle.std.specs.Ordering.{nat_cmp}
use Rattle.std.specs.Cmp.Lexicographic.{slice_cmp}
use Rattle.glare_core.specs.declared.facts.Held.TheVariants.{Opening}
use Rattle.glare_core.specs.Ledger.{PeerRow, row_or_blank, held_with}
use Rattle.startup.specs.State.{new_startup, IsSound, is_born_here}

none_is_some : {A : Type 0} (x : A) (o : Option A) → o ≡ None → o ≡ Some x → ⊥
none_is_some x o n s = let clash : None ≡ Some x = sym n ∙ s in cc

pub new_is_sound : (cert cookie_secret : List ℕ) (max_peers : ℕ) → IsSound (new_startup cert cookie_secret max_peers)
new_is_sound cert cookie_secret max_peers = let s = new_startup cert cookie_secret max_peers in
    record {
      own = refl;
      held = λ near a e. absurd (none_is_some a (get s.attempts near) (get-empty nat_cmp near) e);
      stages = λ near a e. absurd (none_is_some a (get s.attempts near) (get-empty nat_cmp near) e);
      there = λ peer n near ni e. absurd (none_is_some (Opening n near ni) (held_with s.ledger peer) (ap (λ (o : Option PeerRow). (row_or_blank o).held) (get-empty (slice_cmp nat_cmp) peer)) e);
      kept = λ peer. ap is_some (get-empty (slice_cmp nat_cmp) peer) ∙ sym (ap (λ (o : Option PeerRow). is_born_here (row_or_blank o).held) (get-empty (slice_cmp nat_cmp) peer));
    }
