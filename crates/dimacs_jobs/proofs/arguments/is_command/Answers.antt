use Rattle.std.proofs.Common.{◌≡◌, ◌↔◌, ◌<◌, Contains, IsTrue, List, arith, refl, slice_index_or, sym, true, ℕ}
use Rattle.dimacs_jobs.specs.Jobs.{command_words}
use Rattle.dimacs_jobs.proofs.arguments.is_command.Goals as goal

-- a word that stands in the list at a place names a command
names_command : (word : List ℕ) (k : ℕ) → k < 17 → slice_index_or command_words k word ≡ word → IsTrue true ↔ Contains command_words word
names_command word k below same = ((λ yes. (k, below, same)), (λ within. refl))

pub returns-in-convert-3 : goal.returns-in-convert-3
returns-in-convert-3 c = names_command c.args.word.now 2 (omega arith) (sym c.in-convert.is-text)

pub returns-in-convert-4 : goal.returns-in-convert-4
returns-in-convert-4 c = names_command c.args.word.now 3 (omega arith) (sym c.in-convert.is-text-2)

pub returns-in-convert-5 : goal.returns-in-convert-5
returns-in-convert-5 c = names_command c.args.word.now 4 (omega arith) (sym c.in-convert.is-text-3)

pub returns-in-convert-6 : goal.returns-in-convert-6
returns-in-convert-6 c = names_command c.args.word.now 5 (omega arith) (sym c.in-convert.is-text-4)

pub returns-in-convert-7 : goal.returns-in-convert-7
returns-in-convert-7 c = names_command c.args.word.now 6 (omega arith) (sym c.in-convert.is-text-5)

pub returns-in-convert-8 : goal.returns-in-convert-8
returns-in-convert-8 c = names_command c.args.word.now 7 (omega arith) (sym c.in-convert.is-text-6)

pub returns-in-convert-9 : goal.returns-in-convert-9
returns-in-convert-9 c = names_command c.args.word.now 8 (omega arith) (sym c.in-convert.is-text-7)

pub returns-in-convert-10 : goal.returns-in-convert-10
returns-in-convert-10 c = names_command c.args.word.now 9 (omega arith) (sym c.in-convert.is-text-8)

pub returns-in-convert-11 : goal.returns-in-convert-11
returns-in-convert-11 c = names_command c.args.word.now 10 (omega arith) (sym c.in-convert.is-text-9)

pub returns-in-convert-12 : goal.returns-in-convert-12
returns-in-convert-12 c = names_command c.args.word.now 11 (omega arith) (sym c.in-convert.is-text-10)

pub returns-in-convert-13 : goal.returns-in-convert-13
returns-in-convert-13 c = names_command c.args.word.now 12 (omega arith) (sym c.in-convert.is-text-11)

pub returns-in-convert-14 : goal.returns-in-convert-14
returns-in-convert-14 c = names_command c.args.word.now 13 (omega arith) (sym c.in-convert.is-text-12)

pub returns-in-convert-15 : goal.returns-in-convert-15
returns-in-convert-15 c = names_command c.args.word.now 14 (omega arith) (sym c.in-convert.is-text-13)

pub returns-in-convert-16 : goal.returns-in-convert-16
returns-in-convert-16 c = names_command c.args.word.now 15 (omega arith) (sym c.in-convert.is-explain)
