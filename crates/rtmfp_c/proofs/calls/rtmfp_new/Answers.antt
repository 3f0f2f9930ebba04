use Rattle.std.proofs.Common.{◌≡◌, ℕ, ℤ, List, Option, Some, None, Result, Ok, Err, IfNone, IfSome, inr, refl, subst}
use Rattle.identity.specs.declared.cert.CertFault.{CertFault}
use Rattle.identity.specs.Certificates.{certificate_fault}
use Rattle.c_shapes.specs.Shapes.{setup_of}
use Rattle.rtmfp_c.specs.Going.{IsFresh}
use Rattle.rtmfp_c.specs.Making.{new_refusal}
use Rattle.rtmfp_c.proofs.calls.rtmfp_new.Goals as goal

always : {P : Type 0} (o : Option ℤ) → P → IfNone o P
always None p = p
always (Some x) p = tt

-- what was read are the bytes
read_are : (fault : Option CertFault) (r : Result (List ℕ) CertFault) (cert bytes : List ℕ) → r ≡ Ok cert → (fault ≡ None → r ≡ Ok bytes) → IfSome fault (λ f. r ≡ Err f) → cert ≡ bytes
read_are None r cert bytes is ok refused = let e : r ≡ Ok bytes = ok refl in cc
read_are (Some f) r cert bytes is ok refused = let e : r ≡ Err f = refused in cc

pub returns-in-Some-clause-made : goal.returns-in-Some-clause-made
returns-in-Some-clause-made c =
    let bytes = c.args.certificate.now in
    let same : c.in-Ok.certificate ≡ bytes = read_are (certificate_fault bytes) c.read.result c.in-Ok.certificate bytes c.in-Ok.is c.read.ensures.ok c.read.ensures.refused in
    always (new_refusal c.args.handle.now c.args.config.now bytes) (inr (record {
      node = c.in-Some.node.value;
      code_is = refl;
      holds = c.put.ensures;
      fresh = subst (λ (b : List ℕ). IsFresh (setup_of c.args.config.now b c.args.generation c.args.group.now c.args.cookies.now) c.in-Some.node.value) same c.in-Some.ensures;
    }))
