use Rattle.lasting.proofs.Routers.{hears_plain}
use Rattle.lasting.proofs.laws.plain_frames_leave_tables.Goals as goal

pub returns : goal.returns
returns c = λ l new x added settled plain h. hears_plain l new x added settled plain h
