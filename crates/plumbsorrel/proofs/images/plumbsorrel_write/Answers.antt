use Rattle.plumbsorrel.proofs.Loading.{write_little}
use Rattle.plumbsorrel.proofs.images.plumbsorrel_write.Goals as goal

pub of_refused_image-requires : goal.of_refused_image-requires
of_refused_image-requires c = write_little _ _ _ c.in-Err.r (rw c.in-Err.is at c.write.ensures.0)
