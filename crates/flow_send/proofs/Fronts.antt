-- Whether the first row is settled.
use Rattle.std.proofs.Common.{◌≡◌, ℕ, zero, suc, ◌+◌, ◌==◌, cond, Bool, true, false, List, [], ◌∷◌, ◌++◌, drop, refl, ◌∙◌, add-one}
use Rattle.rtmfp_data_chunks.specs.Fragments.{Message}
use Rattle.flow_send.specs.Rows.{Row, is_settled, map_rows, front_settled, settled_front}
use Rattle.flow_send.specs.Sender.{rows_of}
use Rattle.flow_send.specs.Choice.{put_at}

dropped_if : (t : Bool) (r : Row) (rows : List Row) → is_settled r.state ≡ t → front_settled (drop (settled_front rows) rows) ≡ false → front_settled (drop (cond t (settled_front rows + 1) 0) (r ∷ rows)) ≡ false
dropped_if true r rows e ih = let g : front_settled (drop (settled_front rows + 1) (r ∷ rows)) ≡ false = rw add-one ih in g
dropped_if false r rows e ih = e

-- what is left of the rows where the settled ones at the front are taken away
pub front_dropped : (rows : List Row) → front_settled (drop (settled_front rows) rows) ≡ false
front_dropped [] = refl
front_dropped (r ∷ rows) = dropped_if (is_settled r.state) r rows refl (front_dropped rows)

pub front_append : (rows more : List Row) → front_settled rows ≡ false → front_settled more ≡ false → front_settled (rows ++ more) ≡ false
front_append [] more e f = f
front_append (r ∷ rows) more e f = e

pub news_front : (m : Message) (n count : ℕ) → front_settled (rows_of m n count) ≡ false
news_front m n zero = refl
news_front m n (suc count) = refl

pub front_map : (g : ℕ → Row → Row) (n : ℕ) (rows : List Row) → ((k : ℕ) (r : Row) → is_settled (g k r).state ≡ is_settled r.state) → front_settled rows ≡ false → front_settled (map_rows g n rows) ≡ false
front_map g n [] same e = refl
front_map g n (r ∷ rows) same e = same n r ∙ e

put_if : (t : Bool) (new r : Row) → is_settled new.state ≡ false → is_settled r.state ≡ false → is_settled (cond t new r).state ≡ false
put_if true new r e f = e
put_if false new r e f = f

pub front_put : (n at : ℕ) (new : Row) (rows : List Row) → is_settled new.state ≡ false → front_settled rows ≡ false → front_settled (map_rows (put_at n new) at rows) ≡ false
front_put n at new [] e f = refl
front_put n at new (r ∷ rows) e f = put_if (at == n) new r e f
