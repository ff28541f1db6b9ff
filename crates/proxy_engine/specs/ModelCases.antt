-- The models and messages that the laws of worked cases speak of.
use Rattle.std.specs.Prelude.{false, [], ◌∷◌, codes, None, Some}
use Rattle.hx_framing.specs.declared.messages.Request.{Request}
use Rattle.hx_framing.specs.declared.messages.Response.{Response}
use Rattle.hx_status.specs.Abouts.{purge_status_and_reason}
use Rattle.hx_status.specs.declared.about.ReplyData.{ReplyData}
use Rattle.proxy_core.specs.Starts.{empty_store}
use Rattle.proxy_core.specs.Traces.{initial_state as core_begun}
use Rattle.hx_allow.specs.TableLines.{Table}
use Rattle.proxy_core.specs.Cases.{plain_caching_line, table}
use Rattle.proxy_engine.specs.Happenings.{Accepts, Sends}
use Rattle.proxy_engine.specs.EngineModel.{EngineModel, model_after_happening, with_changed_link}
use Rattle.proxy_engine.specs.Acts.{link_model_dropped, model_with_opened_link}
use Rattle.proxy_engine.specs.Questions.{question_with_raw_target}
use Rattle.proxy_engine.specs.State.{new_engine_model}

-- two lines, each with an origin of its own
abbrev pub table_of_two_origins : Table
table_of_two_origins =
    record table { lines = plain_caching_line ∷ record plain_caching_line { origin = Some (codes "10.0.0.2:80") } ∷ [] }

-- nothing has happened; links begin at 5
abbrev pub empty_model : EngineModel
empty_model = new_engine_model (core_begun table (empty_store 2) 1) 5

-- one connection is open
abbrev pub model_with_connection : EngineModel
model_with_connection = model_after_happening empty_model (Accepts 1)

-- which sent two bytes, one at a time
abbrev pub model_after_two_sends : EngineModel
model_after_two_sends = model_after_happening (model_after_happening model_with_connection (Sends 1 (codes "a")))
    (Sends 1 (codes "b"))

-- a link was opened for it
abbrev pub model_with_link : EngineModel
model_with_link = model_with_opened_link model_with_connection 0 false

-- and dropped
abbrev pub model_with_dropped_link : EngineModel
model_with_dropped_link = with_changed_link model_with_link 0 link_model_dropped

abbrev pub answer_200 : Response
answer_200 = record { status = 200; fields = []; content = []; announced = None }

abbrev pub request_of_a : Request
request_of_a = record { method = codes "GET"; target = codes "/a"; minor = 1; fields = []; content = None }

-- a reply that answers it
abbrev pub reply_data_for_a : ReplyData
reply_data_for_a = record { about = purge_status_and_reason 4; question = Some (question_with_raw_target request_of_a) }
