-- `compare::outcomes::compound_code` meets its contract.
use Rattle.compare.proofs.outcomes.compound_code.Goals as goal

pub bounds-codes-p : goal.bounds-codes-p
bounds-codes-p c = (rw c.in-Joined.is at c.requires).0

pub bounds-codes-q : goal.bounds-codes-q
bounds-codes-q c = (rw c.in-Joined.is at c.requires).1

pub bounds-codes-p-in-Dual : goal.bounds-codes-p-in-Dual
bounds-codes-p-in-Dual c = rw c.in-Dual.is at c.requires

pub returns-in-Joined : goal.returns-in-Joined
returns-in-Joined c = rw c.in-Joined.is c.joined_code.ensures

pub returns-in-Dual : goal.returns-in-Dual
returns-in-Dual c = rw c.in-Dual.is c.turned_code.ensures
