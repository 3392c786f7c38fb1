use borrow.Author.Rules.{rules}
use borrow.Author.Tests.{ne_eqb}
use Rattle.script.specs.Records.{kind_of}
use Rattle.script.proofs.kinds.Kind.of.Goals as goal

pub returns-in-0 : goal.returns-in-0
unfolding kind_of
returns-in-0 c = rw c.in-0.is

pub returns-in-1 : goal.returns-in-1
unfolding kind_of
returns-in-1 c = rw c.in-1.is

pub returns-in-2 : goal.returns-in-2
unfolding kind_of
returns-in-2 c = rw c.in-2.is

pub returns-in-3 : goal.returns-in-3
unfolding kind_of
returns-in-3 c = rw c.in-3.is

pub returns-in-4 : goal.returns-in-4
unfolding kind_of
returns-in-4 c = rw c.in-4.is

pub returns-in-5 : goal.returns-in-5
unfolding kind_of
returns-in-5 c = rw c.in-5.is

pub returns-in-6 : goal.returns-in-6
unfolding kind_of
returns-in-6 c = rw c.in-6.is

pub returns-in-16 : goal.returns-in-16
unfolding kind_of
returns-in-16 c = rw c.in-16.is

pub returns-in-17 : goal.returns-in-17
unfolding kind_of
returns-in-17 c = rw c.in-17.is

pub returns-in-18 : goal.returns-in-18
unfolding kind_of
returns-in-18 c = rw c.in-18.is

pub returns-in-19 : goal.returns-in-19
unfolding kind_of
returns-in-19 c = rw c.in-19.is

pub returns-in-20 : goal.returns-in-20
unfolding kind_of
returns-in-20 c = rw c.in-20.is

pub returns-in-21 : goal.returns-in-21
unfolding kind_of
returns-in-21 c = rw c.in-21.is

pub returns-in-32 : goal.returns-in-32
unfolding kind_of
returns-in-32 c = rw c.in-32.is

pub returns-in-33 : goal.returns-in-33
unfolding kind_of
returns-in-33 c = rw c.in-33.is

pub returns-in-34 : goal.returns-in-34
unfolding kind_of
returns-in-34 c = rw c.in-34.is

pub returns-in_default : goal.returns-in_default
unfolding kind_of
returns-in_default c =
    rw (ne_eqb c.args.number 0 (search rules), ne_eqb c.args.number 1 (search rules), ne_eqb c.args.number 2 (search rules), ne_eqb c.args.number 3 (search rules), ne_eqb c.args.number 4 (search rules), ne_eqb c.args.number 5 (search rules), ne_eqb c.args.number 6 (search rules), ne_eqb c.args.number 16 (search rules), ne_eqb c.args.number 17 (search rules), ne_eqb c.args.number 18 (search rules), ne_eqb c.args.number 19 (search rules), ne_eqb c.args.number 20 (search rules), ne_eqb c.args.number 21 (search rules), ne_eqb c.args.number 32 (search rules), ne_eqb c.args.number 33 (search rules), ne_eqb c.args.number 34 (search rules))
