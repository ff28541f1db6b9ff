-- How endings are counted.
use Rattle.std.specs.Prelude.{ℕ}
use Rattle.proxy_figures.specs.Counts.{count_plus_one, count_plus}
use Rattle.proxy_figures.specs.declared.endings.CutReason.{CutReason}
use Rattle.proxy_figures.specs.declared.endings.CutReason.TheVariants.{Room, Content, Memory}
use Rattle.proxy_figures.specs.declared.endings.ClientEndCounts.{ClientEndCounts}
use Rattle.proxy_figures.specs.declared.endings.ExceededClientLimit.{ExceededClientLimit}
use Rattle.proxy_figures.specs.declared.endings.ExceededClientLimit.TheVariants as late
use Rattle.proxy_figures.specs.declared.link_timeouts.LinkTimeouts.{LinkTimeouts}
use Rattle.proxy_figures.specs.declared.link_timeouts.ExceededLinkLimit.{ExceededLinkLimit}
use Rattle.proxy_figures.specs.declared.link_timeouts.ExceededLinkLimit.TheVariants.{Connect, Silence, Exchange}

-- one more that was cut off for this
abbrev pub end_counts_with_cut : ClientEndCounts → CutReason → ClientEndCounts
end_counts_with_cut e Room = record e { for_room = count_plus_one e.for_room }
end_counts_with_cut e Content = record e { for_content = count_plus_one e.for_content }
end_counts_with_cut e Memory = record e { for_memory = count_plus_one e.for_memory }

-- one more that was late by this time
abbrev pub end_counts_with_lateness : ClientEndCounts → ExceededClientLimit → ClientEndCounts
end_counts_with_lateness e late.Client = record e { client_timeouts = count_plus_one e.client_timeouts }
end_counts_with_lateness e late.Request = record e { request_timeouts = count_plus_one e.request_timeouts }
end_counts_with_lateness e late.Abandon = record e { abandon_timeouts = count_plus_one e.abandon_timeouts }

-- bytes that have come from clients, and that the system has taken for them
abbrev pub end_counts_with_received_bytes : ClientEndCounts → ℕ → ClientEndCounts
end_counts_with_received_bytes e count = record e { received = count_plus e.received count }

abbrev pub end_counts_with_written_bytes : ClientEndCounts → ℕ → ClientEndCounts
end_counts_with_written_bytes e count = record e { written = count_plus e.written count }

-- one more link whose time was over
abbrev pub link_timeouts_with_one_more : LinkTimeouts → ExceededLinkLimit → LinkTimeouts
link_timeouts_with_one_more t Connect = record t { connect = count_plus_one t.connect }
link_timeouts_with_one_more t Silence = record t { silence = count_plus_one t.silence }
link_timeouts_with_one_more t Exchange = record t { exchange = count_plus_one t.exchange }
