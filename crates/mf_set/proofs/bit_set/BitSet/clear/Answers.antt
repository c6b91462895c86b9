use Rattle.std.proofs.Common.{◌≡◌, length, replicate, sym, subst, rules}
use Rattle.mf_set.specs.Words.{AreWords}
use Rattle.mf_set.proofs.SetLaws.{AreWords-none, numbers_of-cleared}
use Rattle.mf_set.proofs.bit_set.BitSet.clear.Goals as goal

pub invariant_of-self : goal.invariant_of-self
invariant_of-self c =
    let items : c.fill.new.self.items ≡ replicate (length c.self.inside.words.items) 0 = search rules in
    subst (AreWords c.self.inside.room) (sym items) (AreWords-none c.self.inside.room (length c.self.inside.words.items) c.self.invariant.fits c.self.invariant.count)

pub returns : goal.returns
returns c =
    let items : c.fill.new.self.items ≡ replicate (length c.self.inside.words.items) 0 = search rules in
    numbers_of-cleared c.self.inside.room c.self.inside.words.items c.fill.new.self.items c.args.self.now c.self.invariant c.self.view_is items
