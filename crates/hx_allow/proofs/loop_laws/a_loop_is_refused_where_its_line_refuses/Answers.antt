use Rattle.hx_allow.proofs.Loops.{loop_is_refused, looped_is_a_loop}
use Rattle.hx_allow.proofs.loop_laws.a_loop_is_refused_where_its_line_refuses.Goals as goal

pub returns-clause-refused : goal.returns-clause-refused
returns-clause-refused c = λ table method target fields line is refuses twice. loop_is_refused table method target fields line is refuses twice

pub returns-clause-nothing_else : goal.returns-clause-nothing_else
returns-clause-nothing_else c = λ table method target fields line is. looped_is_a_loop table method target fields line is
