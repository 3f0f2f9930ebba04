-- What an answer passes on, and elements by their indices.
use Rattle.std.proofs.Common.{◌≡◌, true, false}
use Rattle.std.specs.Prelude.{Result, Ok, Err, OnOk, OnErr}
use Rattle.std.specs.Result.{is_ok}

pub on_ok : {T E : Type 0} {P Q : Type 0} (r : Result T E) → (P → Q) → OnOk r P → OnOk r Q
on_ok (Ok v) f h = f h
on_ok (Err e) f h = tt

pub on_err : {T E : Type 0} {P Q : Type 0} (r : Result T E) → (P → Q) → OnErr r P → OnErr r Q
on_err (Ok v) f h = tt
on_err (Err e) f h = f h

-- answers that are tested
pub from_ok : {T E : Type 0} {P : Type 0} (r : Result T E) → true ≡ is_ok r → OnOk r P → P
from_ok (Ok v) e h = h
from_ok (Err v) e h = absurd cc

pub from_err : {T E : Type 0} {P : Type 0} (r : Result T E) → false ≡ is_ok r → OnErr r P → P
from_err (Ok v) e h = absurd cc
from_err (Err v) e h = h
