use Rattle.c_replay.proofs.stepping.act.Goals as goal

pub returns-in-Invoke-clause-ok : goal.returns-in-Invoke-clause-ok
returns-in-Invoke-clause-ok c = rw c.in-Invoke.is (c.act_call.ensures.ok c.in-Invoke.field-0)

pub returns-in-Return-clause-ok : goal.returns-in-Return-clause-ok
returns-in-Return-clause-ok c = rw c.in-Return.is (c.act_return.ensures c.in-Return.field-1)
