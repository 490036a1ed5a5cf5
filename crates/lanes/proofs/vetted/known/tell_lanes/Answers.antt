-- `lanes::vetted::known::tell_lanes` meets its contract.
use Rattle.lanes.proofs.Picked.{added, picked}
use Rattle.lanes.proofs.vetted.known.tell_lanes.Goals as goal

pub returns-in-Bits : goal.returns-in-Bits
returns-in-Bits c = added _ _ _ _ _ c.in-Bits.is c.add_lanes.ensures

pub returns-in_default : goal.returns-in_default
returns-in_default c = picked _ _ _ _ c.told.ensures c.told-in_default.ensures c.told-in_default-2.ensures _ _ _ _ c.pick_lanes.ensures
