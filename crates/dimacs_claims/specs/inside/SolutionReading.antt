-- Inside: a solution while its text is read.
use Rattle.std.specs.Prelude.{Option, None, is_some}
use Rattle.dimacs_records.specs.{declared.order.Context.{Context}, Tests.{plain_context_of}}
use Rattle.dimacs_claims.specs.declared.solution.ValueLine.{ValueLine}

-- what the tests of a value, or of the end, need
abbrev pub value_context : Option ValueLine → Context
value_context value = record (plain_context_of None 0) { valued = is_some value }
