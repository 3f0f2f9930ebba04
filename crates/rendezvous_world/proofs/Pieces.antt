-- Parts of lists, and ends among ends.
use Rattle.std.proofs.Common.{◌≡◌, ℕ, zero, suc, ◌-◌, ◌<◌, ◌≤◌, true, false, List, [], ◌∷◌, ◌++◌, map, length, get_or, Option, Some, None, not, refl, sym, ap, ◌∙◌, subst, arith}
use Rattle.std.specs.List.{list_any}
use Rattle.sha2.specs.Sha256.{sha256}
use Rattle.identity.specs.Certificates.{IsCertificate}
use Rattle.crypto_profile.specs.declared.keys.Context.{Context}
use Rattle.endpoint_model.specs.Event.{Setup}
use Rattle.endpoint_model.specs.State.{State, fresh}
use Rattle.endpoint_laws.specs.OpensIn.{opens_in}
use Rattle.rtmfp_text.specs.declared.names.Named.{Named}
use Rattle.counted_secrets.specs.Secrets.{counted_secret}
use Rattle.rendezvous_world.specs.declared.end.End.{End as EndKept}
use Rattle.rendezvous_world.specs.declared.journal.JournalLine.{JournalLine}
use Rattle.rendezvous_world.specs.declared.step.Step.TheVariants.{End}
use Rattle.rendezvous_world.specs.Seen.{EndSeen, Seen, first_generation, generation_at}
use Rattle.rendezvous_world.specs.Sent.{Sent, sent_in}
use Rattle.rendezvous_world.specs.Keyed.{AreKeys}
use Rattle.rendezvous_world.specs.Faults.{is_sent, is_unsent_in, is_forged_at, is_bad}
use Rattle.rendezvous_world.specs.Stepping.{new_setup, new_end, with_end}
use Rattle.rendezvous_world.specs.Inside.{end_seen, world_seen, named_of, IsKept}
use Rattle.rendezvous_world.specs.Kept.{IsWorld}
use Rattle.rendezvous_world.proofs.Finding.{test_other}
use Rattle.rendezvous_world.proofs.Keeping.{with_moment_is_world, with_end_is_world}

-- ---- forged at an end

pub forged_there : (ends : List EndKept) (k : ℕ) (there : EndKept) (bytes : List ℕ) (sent : List Sent) → there ≡ get_or ends k there → k < length ends →
    is_forged_at (map end_seen ends) k bytes sent ≡ is_unsent_in (opens_in there.endpoint bytes) bytes sent
forged_there [] k there bytes sent is lt = absurd (omega arith)
forged_there (e ∷ ends) zero there bytes sent is lt = ap (λ (x : EndKept). is_unsent_in (opens_in x.endpoint bytes) bytes sent) (sym is)
forged_there (e ∷ ends) (suc k) there bytes sent is lt =
    test_other (suc k) 0 (is_unsent_in (opens_in e.endpoint bytes) bytes sent) (is_forged_at (map end_seen ends) (suc k - 1) bytes sent) (λ z. omega arith)
    ∙ ap (λ (n : ℕ). is_forged_at (map end_seen ends) n bytes sent) (let z : suc k - 1 ≡ k = omega arith in z)
    ∙ forged_there ends k there bytes sent is (omega (arith, lt))

-- ---- the current generation at an end

pub generation_there : (ends : List EndKept) (k : ℕ) (there : EndKept) → there ≡ get_or ends k there → k < length ends → generation_at (map end_seen ends) k ≡ there.endpoint.group.generation
generation_there [] k there is lt = absurd (omega arith)
generation_there (e ∷ ends) zero there is lt = ap (λ (x : EndKept). x.endpoint.group.generation) (sym is)
generation_there (e ∷ ends) (suc k) there is lt = generation_there ends k there is (omega (arith, lt))

-- ---- forged, by the context that a session ID names

pub sent_where_named : (opens : Option Context) (named : Context) (bytes : List ℕ) (sent : List Sent) → ((context : Context) → opens ≡ Some context → context ≡ named) → list_any (is_sent bytes named) sent ≡ true
    → is_unsent_in opens bytes sent ≡ false
sent_where_named None named bytes sent only there = refl
sent_where_named (Some c) named bytes sent only there = ap not (subst (λ (x : Context). list_any (is_sent bytes x) sent ≡ true) (sym (only c refl)) there)

-- ---- another moment

pub kept_moment : (moment later : ℕ) (ends : List EndKept) (named : List Named) (lines : List JournalLine) (starts : List ℕ) (sent : ℕ) (keyed : List ℕ) → moment ≤ later → IsKept moment ends named lines starts sent keyed →
    IsKept later ends named lines starts sent keyed
kept_moment moment later ends named lines starts sent keyed le kept = record {
  names = kept.names;
  begins = kept.begins;
  total = kept.total;
  fits = kept.fits;
  keys = kept.keys;
  world = with_moment_is_world (world_seen moment ends lines) later le kept.world;
}

-- ---- more keys

pub kept_keys : (moment : ℕ) (ends : List EndKept) (named : List Named) (lines : List JournalLine) (starts : List ℕ) (sent : ℕ) (keyed more : List ℕ) → IsKept moment ends named lines starts sent keyed →
    AreKeys more (sent_in lines) → IsKept moment ends named lines starts sent more
kept_keys moment ends named lines starts sent keyed more kept are = record {
  names = kept.names;
  begins = kept.begins;
  total = kept.total;
  fits = kept.fits;
  keys = are;
  world = kept.world;
}

-- ---- one more end

mapped_more : {A B : Type 0} (f : A → B) (xs : List A) (x : A) → map f (xs ++ x ∷ []) ≡ map f xs ++ f x ∷ []
mapped_more f [] x = refl
mapped_more f (y ∷ xs) x = ap (λ ys. f y ∷ ys) (mapped_more f xs x)

abbrev pub end_of : List ℕ → ℕ → ℕ → List ℕ → State → EndKept
end_of name max_peers max_sessions cert state = record {
  name = name;
  config = record { max_peers = max_peers; max_sessions = max_sessions; introduces = false };
  cert = cert;
  endpoint = state;
}

-- what an end is given with this secret, and with that of the first generation
abbrev pub setup_by : ℕ → ℕ → List ℕ → List ℕ → List ℕ → Setup
setup_by max_peers max_sessions cert cookie_secret secret = record {
  config = record { max_peers = max_peers; max_sessions = max_sessions; introduces = false };
  cert = cert;
  generation = first_generation;
  secret = secret;
  cookie_secret = cookie_secret;
}

abbrev pub setup_with : ℕ → ℕ → List ℕ → List ℕ → Setup
setup_with max_peers max_sessions cert cookie_secret =
    setup_by max_peers max_sessions cert cookie_secret (counted_secret first_generation)

pub fresh_with : (max_peers max_sessions : ℕ) (cert cookie_secret secret : List ℕ) (s : State) → s ≡ fresh (setup_by max_peers max_sessions cert cookie_secret secret) → secret ≡ counted_secret first_generation →
    s ≡ fresh (setup_with max_peers max_sessions cert cookie_secret)
fresh_with max_peers max_sessions cert cookie_secret secret s is same =
    is ∙ ap (λ (x : List ℕ). fresh (setup_by max_peers max_sessions cert cookie_secret x)) same

end_is : (given name print cert : List ℕ) (max_peers max_sessions : ℕ) (state : State) → given ≡ name → print ≡ sha256 cert → state ≡ fresh (setup_with max_peers max_sessions cert print) →
    end_seen (end_of given max_peers max_sessions cert state) ≡ new_end name (new_setup max_peers max_sessions cert)
end_is given name print cert max_peers max_sessions state is printed begun =
    ap (λ (n : List ℕ). end_seen (end_of n max_peers max_sessions cert state)) is
    ∙ ap (λ (s : State). end_seen (end_of name max_peers max_sessions cert s)) (begun ∙ ap (λ (p : List ℕ). fresh (setup_with max_peers max_sessions cert p)) printed)

pub seen_end : (moment : ℕ) (ends : List EndKept) (lines : List JournalLine) (given name print cert : List ℕ) (max_peers max_sessions : ℕ) (state : State) → given ≡ name → print ≡ sha256 cert →
    state ≡ fresh (setup_with max_peers max_sessions cert print) →
    world_seen moment (ends ++ end_of given max_peers max_sessions cert state ∷ []) lines ≡ with_end (world_seen moment ends lines) (new_end name (new_setup max_peers max_sessions cert))
seen_end moment ends lines given name print cert max_peers max_sessions state is printed begun =
    ap (λ (es : List EndSeen). let w : Seen = record { moment = moment; ends = es; lines = lines } in w)
    (mapped_more end_seen ends (end_of given max_peers max_sessions cert state)
    ∙ ap (λ (e : EndSeen). map end_seen ends ++ e ∷ []) (end_is given name print cert max_peers max_sessions state is printed begun))

pub kept_end : (moment : ℕ) (ends : List EndKept) (named : List Named) (lines : List JournalLine) (starts : List ℕ) (sent : ℕ) (keyed : List ℕ) → IsKept moment ends named lines starts sent keyed →
    (given again name print cert : List ℕ) (max_peers max_sessions : ℕ) (state : State) → given ≡ name → again ≡ name → print ≡ sha256 cert → IsCertificate cert → state ≡ fresh (setup_with max_peers max_sessions cert print) →
    is_bad (world_seen moment ends lines) (End name max_peers max_sessions cert) ≡ false →
    IsKept moment (ends ++ end_of given max_peers max_sessions cert state ∷ []) (named ++ record { print = print; name = again } ∷ []) lines starts sent keyed
kept_end moment ends named lines starts sent keyed kept given again name print cert max_peers max_sessions state is is_again printed certified begun fine = record {
  names =
      ap (λ (ns : List Named). ns ++ record { print = print; name = again } ∷ []) kept.names
      ∙ ap (λ (p : List ℕ). map named_of (map end_seen ends) ++ record { print = p; name = again } ∷ []) printed
      ∙ ap (λ (n : List ℕ). map named_of (map end_seen ends) ++ record { print = sha256 cert; name = n } ∷ []) (is_again ∙ sym is)
      ∙ sym (mapped_more named_of (map end_seen ends) (end_seen (end_of given max_peers max_sessions cert state)))
      ∙ ap (map named_of) (sym (mapped_more end_seen ends (end_of given max_peers max_sessions cert state)));
  begins = kept.begins;
  total = kept.total;
  fits = kept.fits;
  keys = kept.keys;
  world = subst (λ (x : Seen). IsWorld x) (sym (seen_end moment ends lines given name print cert max_peers max_sessions state is printed begun))
      (with_end_is_world (world_seen moment ends lines) name cert max_peers max_sessions kept.world certified fine);
}
