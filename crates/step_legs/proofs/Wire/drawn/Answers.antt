-- `Wire::drawn` meets its contract. Assumes nothing.
use mir.Facts.{to_z-of_z}
use Rattle.whole.specs.Size.{sub, mul, fits}
use Rattle.step_legs.specs.Shares.{volt_size, drawn_is}
use Rattle.step_legs.proofs.Wire.drawn.Goals as goal

pub overflow_mul-result : goal.overflow_mul-result
overflow_mul-result c =
    let g = c.requires.0.wired.g_end in
    let f = volt_size c.requires.1 c.args.self.far in
    simp (to_z-of_z, fits g tt, fits f tt) (fits (mul g f) tt)

pub overflow_sub-result : goal.overflow_sub-result
overflow_sub-result c =
    let g = c.requires.0.wired.g_end in
    let f = volt_size c.requires.1 c.args.self.far in
    let h = c.requires.0.h_end in
    simp (to_z-of_z, fits g tt, fits f tt, fits (mul g f) tt, fits h tt) (fits (sub h (mul g f)) tt)

pub returns : goal.returns
returns c =
    let g = c.requires.0.wired.g_end in
    let f = volt_size c.requires.1 c.args.self.far in
    let h = c.requires.0.h_end in
    simp (to_z-of_z, fits g tt, fits f tt, fits (mul g f) tt, fits h tt, fits (sub h (mul g f)) tt) (drawn_is _ c.requires.0.wired)
