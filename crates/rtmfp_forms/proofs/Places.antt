-- When two addresses are the same place.
use Rattle.std.proofs.Common.{◌≡◌, Bool, true, false, ◌&&◌, ◌==◌, refl, sym}
use Rattle.std.specs.Str.{bytes_eq}
use Rattle.std.proofs.lemmas.Bool.{eq-eqb, eqb-true}
use Rattle.std.proofs.lemmas.Slice.Eq.{bytes_eq-Decides}
use Rattle.rtmfp_forms.specs.Address.{AddressParts, SamePlace, is_same_family, is_same_place}

family_same : (v w : Bool) → is_same_family v w ≡ true → v ≡ w
family_same true w e = sym e
family_same false true e = cc
family_same false false e = refl

same_family : (v w : Bool) → v ≡ w → is_same_family v w ≡ true
same_family true w e = sym e
same_family false true e = cc
same_family false false e = refl

pub first_true : (a b : Bool) → (a && b) ≡ true → a ≡ true
first_true true b e = refl
first_true false b e = e

pub second_true : (a b : Bool) → (a && b) ≡ true → b ≡ true
second_true true b e = e
second_true false b e = cc

pub both_true : (a b : Bool) → a ≡ true → b ≡ true → (a && b) ≡ true
both_true true b p q = q
both_true false b p q = p

pub place_same : (a b : AddressParts) → is_same_place a b ≡ true → SamePlace a b
place_same a b e =
    let rest = second_true (is_same_family a.v6 b.v6) (bytes_eq a.host b.host && (a.port == b.port)) e in
    record {
      family = family_same a.v6 b.v6 (first_true (is_same_family a.v6 b.v6) (bytes_eq a.host b.host && (a.port == b.port)) e);
      host = (bytes_eq-Decides a.host b.host).0 (first_true (bytes_eq a.host b.host) (a.port == b.port) rest);
      port = eqb-true a.port b.port (second_true (bytes_eq a.host b.host) (a.port == b.port) rest);
    }

pub same_place : (a b : AddressParts) → SamePlace a b → is_same_place a b ≡ true
same_place a b same =
    both_true (is_same_family a.v6 b.v6) (bytes_eq a.host b.host && (a.port == b.port)) (same_family a.v6 b.v6 same.family)
    (both_true (bytes_eq a.host b.host) (a.port == b.port) ((bytes_eq-Decides a.host b.host).1 same.host) (eq-eqb a.port b.port same.port))
