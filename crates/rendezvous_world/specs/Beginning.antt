-- What an end was given at its beginning.
use Rattle.endpoint_model.specs.Event.{Setup}
use Rattle.rendezvous_world.specs.declared.beginning.Beginning.{Beginning}

abbrev pub setup_given : Beginning → Setup
setup_given b = record {
  config = b.config;
  cert = b.cert;
  generation = b.generation;
  secret = b.secret;
  cookie_secret = b.cookie_secret;
}
