use Rattle.c_replay.proofs.deeds.perform.Goals as goal

pub returns-in-Assign-clause-passes : goal.returns-in-Assign-clause-passes
returns-in-Assign-clause-passes c = rw c.in-Assign.is (c.assign.ensures.passes c.args.program.now)

pub returns-in-Malloc-clause-passes : goal.returns-in-Malloc-clause-passes
returns-in-Malloc-clause-passes c = rw c.in-Malloc.is (c.malloc.ensures.passes c.in-Malloc.field-2)

pub returns-in-Getchar-clause-passes : goal.returns-in-Getchar-clause-passes
returns-in-Getchar-clause-passes c = rw c.in-Getchar.is (c.getchar.ensures.passes c.args.program.now)

pub returns-in-Putchar-clause-passes : goal.returns-in-Putchar-clause-passes
returns-in-Putchar-clause-passes c = rw c.in-Putchar.is (c.putchar.ensures.passes c.args.program.now)

pub returns-in-Printf-clause-passes : goal.returns-in-Printf-clause-passes
returns-in-Printf-clause-passes c = rw c.in-Printf.is (c.printf.ensures.passes c.args.program.now)
