-- `Wire::through` meets its contract. Assumes nothing.
use mir.Facts.{to_z-of_z}
use Rattle.whole.specs.Size.{sub, mul, fits}
use Rattle.step_legs.specs.Shares.{volt_size, through_is}
use Rattle.step_legs.proofs.Wire.through.Goals as goal

pub overflow_sub-result : goal.overflow_sub-result
overflow_sub-result c =
    let n = volt_size c.requires.1 c.args.self.near in
    let f = volt_size c.requires.1 c.args.self.far in
    simp (to_z-of_z, fits n tt, fits f tt) (fits (sub n f) tt)

pub overflow_mul-result : goal.overflow_mul-result
overflow_mul-result c =
    let n = volt_size c.requires.1 c.args.self.near in
    let f = volt_size c.requires.1 c.args.self.far in
    let g = c.requires.0.g_end in
    simp (to_z-of_z, fits n tt, fits f tt, fits (sub n f) tt, fits g tt) (fits (mul g (sub n f)) tt)

pub returns : goal.returns
returns c =
    let n = volt_size c.requires.1 c.args.self.near in
    let f = volt_size c.requires.1 c.args.self.far in
    let g = c.requires.0.g_end in
    simp (to_z-of_z, fits n tt, fits f tt, fits (sub n f) tt, fits g tt, fits (mul g (sub n f)) tt) (through_is _ c.requires.0)
