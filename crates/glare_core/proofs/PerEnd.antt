-- A history is lawful where the log of each end is.
use Rattle.std.proofs.Common.{ℕ, List, [], ◌∷◌, ◌≡◌, inl, inr, refl, sym, ap, subst, cond, ◌∙◌, Bool, true, false}
use Rattle.std.specs.Str.{bytes_eq}
use Rattle.glare_core.specs.Tells.{Tell}
use Rattle.glare_core.specs.Steps.{Item, Told, Step, step, view}
use Rattle.glare_core.specs.Told.{Event, onto, onto_told, steps, DoneLawful, told_to, IsLawful}
use Rattle.glare_core.specs.PerEnd.{events_of, done_on, log_of, LogLawful}
use Rattle.glare_core.proofs.Tails.{same_end}
use Rattle.glare_core.proofs.Views.{view_same, view_other}

view_told_same : (who : List ℕ) (ts : List Tell) (before : List Step) → view who (onto_told who ts before) ≡ told_to ts (view who before)
view_told_same who [] before = refl
view_told_same who (t ∷ ts) before = view_told_same who ts (step who (Told t) ∷ before) ∙ ap (told_to ts) (view_same who (Told t) before)

view_done_same : (who : List ℕ) (items : List Item) (before : List Step) → view who (onto who items before) ≡ done_on items (view who before)
view_done_same who [] before = refl
view_done_same who (item ∷ items) before = view_done_same who items (step who item ∷ before) ∙ ap (done_on items) (view_same who item before)

view_told_other : (who own : List ℕ) (ts : List Tell) (before : List Step) → (own ≡ who → ⊥) → view who (onto_told own ts before) ≡ view who before
view_told_other who own [] before ne = refl
view_told_other who own (t ∷ ts) before ne = view_told_other who own ts (step own (Told t) ∷ before) ne ∙ view_other who own (Told t) before ne

view_done_other : (who own : List ℕ) (items : List Item) (before : List Step) → (own ≡ who → ⊥) → view who (onto own items before) ≡ view who before
view_done_other who own [] before ne = refl
view_done_other who own (item ∷ items) before ne = view_done_other who own items (step own item ∷ before) ne ∙ view_other who own item before ne

pub view_is_log : (who : List ℕ) (history : List Event) → view who (steps history) ≡ log_of (events_of who history)
view_is_log who [] = refl
view_is_log who (e ∷ earlier) =
    let ih = view_is_log who earlier in
    elim (same_end e.who who) [
      | inl d ↦ rw d.1 (subst (λ q. view who (onto q e.done (onto_told q e.told (steps earlier))) ≡ done_on e.done (told_to e.told (log_of (events_of who earlier)))) (sym d.0)
          (view_done_same who e.done (onto_told who e.told (steps earlier)) ∙ ap (done_on e.done) (view_told_same who e.told (steps earlier) ∙ ap (told_to e.told) ih)))
      | inr d ↦ rw d.1 (view_done_other who e.who e.done (onto_told e.who e.told (steps earlier)) d.0 ∙ (view_told_other who e.who e.told (steps earlier) d.0 ∙ ih))
    ]

earlier_lawful : (who : List ℕ) (e : Event) (earlier : List Event) → LogLawful who (events_of who (e ∷ earlier)) → LogLawful who (events_of who earlier)
earlier_lawful who e earlier l = go (bytes_eq e.who who) l
  where
    go : (b : Bool) → LogLawful who (cond b (e ∷ events_of who earlier) (events_of who earlier)) → LogLawful who (events_of who earlier)
    go true l = l.1
    go false l = l

pub lawful_by_ends : (history : List Event) → ((who : List ℕ) → LogLawful who (events_of who history)) → IsLawful history
lawful_by_ends [] all = tt
lawful_by_ends (e ∷ earlier) all =
    let here : LogLawful e.who (e ∷ events_of e.who earlier) = elim (same_end e.who e.who) [ inl d ↦ rw d.1 at (all e.who) | inr d ↦ absurd (d.0 refl) ] in (
      subst (λ v. DoneLawful e.who (told_to e.told v) e.done) (sym (view_is_log e.who earlier)) here.0,
      lawful_by_ends earlier (λ who. earlier_lawful who e earlier (all who)),
    )
