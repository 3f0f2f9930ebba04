use Rattle.std.proofs.Common.{◌∷◌, [], Option, Some, ap, ◌∙◌}
use Rattle.std.specs.FinMap.{get}
use Rattle.rtmfp_data_chunks.specs.Reader.{data_reading}
use Rattle.rtmfp_base.specs.Reasons.{first_that_stands}
use Rattle.rtmfp_base.specs.declared.cause.Cause.{Cause}
use Rattle.rtmfp_base.specs.declared.cause.Cause.TheVariants.{WrongPlace}
use Rattle.endpoint_model.specs.declared.config.Draws.{Draws}
use Rattle.endpoint_model.specs.declared.place.Place.TheVariants.{Startup, Attempt}
use Rattle.endpoint_model.specs.FlowChunks.{flow_cause}
use Rattle.endpoint_model.proofs.FlowChunks.{flows_cause}
use Rattle.endpoint_model.proofs.edges.flows_are_in_sessions_alone.Goals as goal

draws : Draws
draws = record { nonce = []; tag = []; token = []; word = 0 }

pub returns-clause-attempt : goal.returns-clause-attempt
returns-clause-attempt c s walk from chunk near generation is reads =
    flows_cause s walk from draws chunk (Attempt near generation) is
    ∙ ap (λ (o : Option Cause). first_that_stands (o ∷ Some WrongPlace ∷ flow_cause (get s.sessions near) (data_reading walk.cursor chunk.kind chunk.payload) ∷ [])) reads

pub returns-clause-startup : goal.returns-clause-startup
returns-clause-startup c s walk from chunk generation is reads =
    flows_cause s walk from draws chunk (Startup generation) is
    ∙ ap (λ (o : Option Cause). first_that_stands (o ∷ Some WrongPlace ∷ flow_cause (get s.sessions 0) (data_reading walk.cursor chunk.kind chunk.payload) ∷ [])) reads
