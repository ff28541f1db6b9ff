-- Clients that go with a request that isn't answered.
--
-- unanswered_departure_of, client_with_departure_told: what is told of a client that goes, once, and the client then
-- words_of_open_or_read_request: what it asked for
-- words_of_departure: what the line of the log about it says
-- UnansweredDepartureIsLogged: what becomes of that line
-- LostClientIsListed: the engine is told of a client before the next turn
-- LostClientIsListedIfMemory: so it is, unless there is no memory to keep that
-- LossOfClientIsListed: so it is with a client whose stream is dropped
use Rattle.std.specs.Prelude.{◌≡◌, ◌⊎◌, ◌++◌, ◌∷◌, [], ℕ, List, Bool, true, false, if◌then◌else◌, Option, None, Some}
use Rattle.std.specs.Prelude.{is_some, string_bytes}
use Rattle.std.specs.Global.{Box}
use Rattle.proxy_figures.specs.Counts.{count_plus}
use Rattle.proxy_figures.specs.Unanswered.{unanswered_name}
use Rattle.proxy_figures.specs.declared.unanswered.UnansweredCause.{UnansweredCause}
use Rattle.proxy_log.specs.Asked.{AskedWords, asked_words, asked_words_of_head}
use Rattle.proxy_log.specs.Line.{LogLineWords, log_line_text, unanswered_reason}
use Rattle.proxy_log.specs.PendingLines.{LineIsAddedOrLost}
use Rattle.proxy_log.specs.declared.kept_line.RequestLine.{RequestLine}
use Rattle.proxy_log.specs.declared.logged_request.LoggedRequest.{LoggedRequest}
use Rattle.proxy_log.specs.declared.pending_lines.Lines.{Lines}
use Rattle.proxy_ends.specs.declared.clients.Clients.{Clients}
use Rattle.proxy_ends.specs.declared.clients.client.Client.{Client}
use Rattle.proxy_ends.specs.declared.clients.client.LoggedClient.{LoggedClient}
use Rattle.proxy_ends.specs.declared.clients.client.ClientStreamState.{ClientStreamState}
use Rattle.proxy_ends.specs.declared.clients.client.ClientStreamState.TheVariants as place
use Rattle.proxy_ends.specs.declared.clients.departures.UnansweredDeparture.{UnansweredDeparture}

-- one with a request that was begun and isn't answered
abbrev pub unanswered_departure_of : {S : Type 0} → UnansweredCause → Client S → Option UnansweredDeparture
unanswered_departure_of cause client =
    if client.is_begun then Some (record { cause = cause; asked = client.asked; logged = client.logged }) else None

-- what was told isn't told again
abbrev pub client_with_departure_told : {S : Type 0} → Client S → Client S
client_with_departure_told client = if client.is_begun then record client { is_begun = false; logged = None }
    else client

-- its request that is open; else what its request line says, where that came whole and has no fault
abbrev pub words_of_open_or_read_request : Option LoggedRequest → RequestLine → AskedWords
words_of_open_or_read_request None line = asked_words_of_head line.text.items
words_of_open_or_read_request (Some request) line = asked_words request

-- the line of the log names what it asked for, why it has no answer, and the origin that was asked
abbrev pub words_of_departure : AskedWords → List ℕ → UnansweredCause → ℕ → ℕ → List ℕ → LogLineWords
words_of_departure asked address cause moment took origin = record {
  moment = moment;
  client = address;
  method = asked.method;
  target = asked.target;
  status = 0;
  length = 0;
  reason = unanswered_reason (unanswered_name cause);
  took = took;
  origin = origin;
}

-- it stands behind the others, or where there is no room it is lost, and counts as that; of one of which no log is kept
-- there is none
abbrev pub DepartureLineIsAddedIfLogged : Option (Box LoggedClient) → UnansweredCause → Option LoggedRequest → ℕ → ℕ
    → List ℕ
    → Lines
    → Lines → Type 0
DepartureLineIsAddedIfLogged None cause request moment took origin old new = new ≡ old
DepartureLineIsAddedIfLogged (Some logged) cause request moment took origin old new =
    LineIsAddedOrLost (log_line_text
    (words_of_departure (words_of_open_or_read_request request logged.value.line)
    (string_bytes logged.value.address) cause moment took
    origin)) old new

abbrev pub UnansweredDepartureIsLogged : UnansweredDeparture → Option LoggedRequest → ℕ → ℕ → List ℕ → Lines → Lines
    → Type 0
UnansweredDepartureIsLogged departure request moment took origin old new =
    DepartureLineIsAddedIfLogged departure.logged departure.cause request moment took origin old new

-- its number and what is told of it stand behind the others, and no line is lost
abbrev pub LostClientIsListed : {S : Type 0} → ℕ → Option UnansweredDeparture → Clients S → Clients S → Type 0
LostClientIsListed number departure old new =
    (new.lost.items ≡ old.lost.items ++ (record { number = number; departure = departure }) ∷ [])
    × (new.lost_lines ≡ old.lost_lines)

-- it is kept, or there is no memory for it: then the others stay, and a line that was to be told of it counts as lost
abbrev pub LostClientIsListedIfMemory : {S : Type 0} → ℕ → Option UnansweredDeparture → Clients S → Clients S → Type 0
LostClientIsListedIfMemory number departure old new =
    LostClientIsListed number departure old new
    ⊎ ((new.lost.items ≡ old.lost.items)
    × (new.lost_lines ≡ (if is_some departure then count_plus old.lost_lines 1 else old.lost_lines)))

-- it is told of a client that it knew, and whose stream is dropped for a cause, and of nobody else
abbrev pub LossIsListedIfClientIsOpen : {S : Type 0} → ClientStreamState → Option UnansweredDeparture → Clients S
    → Clients S → Type 0
LossIsListedIfClientIsOpen (place.Open n) departure old new = LostClientIsListedIfMemory n departure old new
LossIsListedIfClientIsOpen (place.In queue since) departure old new =
    (new.lost.items ≡ old.lost.items) × (new.lost_lines ≡ old.lost_lines)

abbrev pub LossOfClientIsListed : {S : Type 0} → UnansweredCause → Option (Client S) → Clients S → Clients S → Type 0
LossOfClientIsListed cause None old new = (new.lost.items ≡ old.lost.items) × (new.lost_lines ≡ old.lost_lines)
LossOfClientIsListed cause (Some client) old new =
    LossIsListedIfClientIsOpen client.place (unanswered_departure_of cause client) old new
