use Rattle.proxy_figures.specs.LineOrigins.{LinesHavePlacesOfTheirOrigins}
use Rattle.proxy_server.specs.OriginsOfLines.{origins_of_lines}
use Rattle.proxy_server.proofs.sockets.table_origins.place_origins.Given as goal

-- so many lines have the places of their origins
abbrev pub invariant-loop-line : goal.invariant-loop-line
invariant-loop-line l = LinesHavePlacesOfTheirOrigins (origins_of_lines l.table.lines l.line) l.placed.places.items l.origins
