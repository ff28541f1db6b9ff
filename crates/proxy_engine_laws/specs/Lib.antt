pub mod OneMessageEach
